-- At most one element passes a test: what a write to a place keeps.
use Rattle.std.proofs.Common.{◌≡◌, ◌⊎◌, ℕ, zero, suc, ◌||◌, Bool, true, false, List, [], ◌∷◌, get_or, set, refl, inl, inr}
use Rattle.std.specs.List.{list_any}
use Rattle.std.proofs.lemmas.Bool.{or_parts, false_from_ne_true}
use Rattle.osal_idtable.specs.Sound.{AtMostOne}

no_or : (a b : Bool) → a ≡ false → b ≡ false → (a || b) ≡ false
no_or a b e f = rw (e, f) refl

clash : (a : Bool) → a ≡ true → a ≡ false → ⊥
clash a e f = cc

none_else : (a b : Bool) → (a ≡ true → b ≡ true) → b ≡ false → a ≡ false
none_else a b keeps off = false_from_ne_true a (λ t. clash b (keeps t) off)

module _ {E : Type 0} (test : E → Bool) (d : E) where
  none_set : (i : ℕ) (s : E) (es : List E) → (test s ≡ true → test (get_or es i d) ≡ true) → list_any test es ≡ false → list_any test (set es i s) ≡ false
  none_set i s [] keeps none = refl
  none_set zero s (e ∷ es) keeps none =
      let parts = or_parts (test e) (list_any test es) none in
      no_or (test s) (list_any test es) (none_else (test s) (test e) keeps parts.0) parts.1
  none_set (suc i) s (e ∷ es) keeps none =
      let parts = or_parts (test e) (list_any test es) none in
      no_or (test e) (list_any test (set es i s)) parts.0 (none_set i s es keeps parts.1)

  lone_keep : (i : ℕ) (s : E) (es : List E) → (test s ≡ true → test (get_or es i d) ≡ true) → AtMostOne test es → AtMostOne test (set es i s)
  lone_keep i s [] keeps one = tt
  lone_keep zero s (e ∷ es) keeps one = (λ t. one.0 (keeps t), one.1)
  lone_keep (suc i) s (e ∷ es) keeps one = (λ t. none_set i s es keeps (one.0 t), lone_keep i s es keeps one.1)

  lone_none : (es : List E) → list_any test es ≡ false → AtMostOne test es
  lone_none [] none = tt
  lone_none (e ∷ es) none =
      let parts = or_parts (test e) (list_any test es) none in (λ t. parts.1, lone_none es parts.1)

  lone_new : (i : ℕ) (s : E) (es : List E) → list_any test es ≡ false → AtMostOne test (set es i s)
  lone_new i s [] none = tt
  lone_new zero s (e ∷ es) none =
      let parts = or_parts (test e) (list_any test es) none in (λ t. parts.1, lone_none es parts.1)
  lone_new (suc i) s (e ∷ es) none =
      let parts = or_parts (test e) (list_any test es) none in
      (λ t. absurd (clash (test e) t parts.0), lone_new i s es parts.1)

  -- the written element passes only where the old one did, or where none did
  pub lone_set : (i : ℕ) (s : E) (es : List E) → (test s ≡ true → test (get_or es i d) ≡ true) ⊎ (list_any test es ≡ false) → AtMostOne test es → AtMostOne test (set es i s)
  lone_set i s es (inl keeps) one = lone_keep i s es keeps one
  lone_set i s es (inr none) one = lone_new i s es none
