-- A table of declarations has the last place of each kind and name that a text declares.
use Rattle.std.proofs.Common.{◌≡◌, ◌≤◌, ◌<◌, ◌+◌, ℕ, suc, List, [], ◌∷◌, ◌++◌, ◌&&◌, Bool, true, false, cond, Option, Some, None, length, take, drop, get_or, codes, bytes_eq, inl, inr, refl, sym, ap, subst, ◌∙◌, arith, length-drop}
use Rattle.std.proofs.lemmas.Bool.{cases_Bool, cond-false}
use Rattle.std.proofs.lemmas.List.{take_more, drop_more, take_all, length-take-le}
use Rattle.std.proofs.lemmas.Slice.Eq.{bytes_eq-Decides}
use Rattle.std.proofs.Math.Numerals.{add-one}
use Rattle.std.specs.Borrow.{Bor}
use Rattle.std.specs.BTreeMap.{BTreeMap}
use Rattle.std.specs.Map.{update}
use Rattle.std.specs.Option.{option_to_list}
use Rattle.osal_line.specs.declared.kind.BodyKind.{BodyKind}
use Rattle.osal_line.specs.declared.kind.BodyKind.TheVariants as kind
use Rattle.osal_line.specs.declared.declarations.Declarations.{Declarations}
use Rattle.osal_line.specs.Declarations.{Declared, kind_of, declared_by, is_kind, one_further, last_place}
use Rattle.osal_line.specs.Places.{place_at, Holds, IsPut, IsDeclared}

-- what holds of `task`, of `handler` and of every other word holds of a word
pub by_kind : (P : List ℕ → Type 0) (word : List ℕ) → P (codes "task") → P (codes "handler") → (bytes_eq word (codes "task") ≡ false → bytes_eq word (codes "handler") ≡ false → P word) → P word
by_kind P word task handler other =
    elim (cases_Bool (bytes_eq word (codes "task"))) [
      | inl same ↦ subst P (sym ((bytes_eq-Decides word (codes "task")).0 same)) task
      | inr no_task ↦ elim (cases_Bool (bytes_eq word (codes "handler"))) [
        | inl same ↦ subst P (sym ((bytes_eq-Decides word (codes "handler")).0 same)) handler
        | inr no_handler ↦ other no_task no_handler
      ]
    ]

-- another word is that of no kind
pub of_no_kind : (word : List ℕ) → bytes_eq word (codes "task") ≡ false → bytes_eq word (codes "handler") ≡ false → kind_of word ≡ None
of_no_kind word no_task no_handler =
    cond-false (bytes_eq word (codes "task")) _ _ no_task ∙ cond-false (bytes_eq word (codes "handler")) _ _ no_handler

-- a line that begins with such a word declares nothing
pub none_declared : (word : List ℕ) (words : List (List ℕ)) → kind_of word ≡ None → declared_by (word ∷ words) ≡ None
none_declared word [] none = refl
none_declared word (name ∷ []) none = rw none refl
none_declared word (name ∷ another ∷ words) none = refl

-- the same of the words that the code finds
pub none_found : (found words : List (List ℕ)) (word : List ℕ) → found ≡ word ∷ words → kind_of word ≡ None → declared_by found ≡ None
none_found found words word found-is none = ap declared_by found-is ∙ none_declared word words none

further_again : (here last : Bool) (n : ℕ) (found : Option ℕ) → one_further here (cond last (Some n) found) ≡ cond last (Some (suc n)) (one_further here found)
further_again here true n found = ap Some (add-one n)
further_again here false n found = refl

-- the last place where one more body stands at the end
last_place-push : (bodies : List Declared) (last : Declared) (runs : BodyKind) (name : List ℕ) → last_place (bodies ++ last ∷ []) runs name ≡ cond (is_kind last.kind runs && bytes_eq last.name name) (Some (length bodies)) (last_place bodies runs name)
last_place-push [] last runs name = refl
last_place-push (other ∷ bodies) last runs name =
    let here = is_kind other.kind runs && bytes_eq other.name name in
    let one_more = is_kind last.kind runs && bytes_eq last.name name in
    ap (one_further here) (last_place-push bodies last runs name)
    ∙ further_again here one_more (length bodies) (last_place bodies runs name)

-- a task is put into the table of tasks
pub task_put : (old new : Declarations) (name : List ℕ) (place : ℕ) → ((other : List ℕ) → place_at new.tasks other ≡ update bytes_eq (place_at old.tasks) name (Some place) other) → new.handlers ≡ old.handlers → IsPut old new (record { kind = kind.Task; name = name }) place
task_put old new name place put same kind.Task other = put other
task_put old new name place put same kind.Handler other =
    ap (λ (places : BTreeMap (Bor (List ℕ)) ℕ). place_at places other) same

-- a handler is put into that of handlers
pub handler_put : (old new : Declarations) (name : List ℕ) (place : ℕ) → ((other : List ℕ) → place_at new.handlers other ≡ update bytes_eq (place_at old.handlers) name (Some place) other) → new.tasks ≡ old.tasks → IsPut old new (record { kind = kind.Handler; name = name }) place
handler_put old new name place put same kind.Handler other = put other
handler_put old new name place put same kind.Task other =
    ap (λ (places : BTreeMap (Bor (List ℕ)) ℕ). place_at places other) same

-- how far a table has come that holds the first bodies of a text
pub record Filled (table : Declarations) (bodies : List Declared) (count : ℕ) (more : List Declared) : Type 0 where
  pub within : count ≤ length bodies
  pub rest : drop count bodies ≡ more
  pub holds : Holds table (take count bodies)

one_placed : (old new : Declarations) (bodies more : List Declared) (count next : ℕ) (body : Declared) → IsDeclared old new count next (Some body) → Filled old bodies count (body ∷ more) → Filled new bodies next more
one_placed old new bodies more count next body placed filled =
    let short : count < length bodies = omega (arith, length-drop count bodies, ap length filled.rest) in
    let split : body ∷ more ≡ get_or bodies count body ∷ drop (count + 1) bodies = sym filled.rest ∙ drop_more bodies count body short in
    let here : body ≡ get_or bodies count body = cc in
    let behind : drop (count + 1) bodies ≡ more = cc in
    let front : take (count + 1) bodies ≡ take count bodies ++ body ∷ [] = take_more bodies count body short ∙ ap (λ (v : Declared). take count bodies ++ v ∷ []) (sym here) in
    let long : length (take count bodies) ≡ count = length-take-le count bodies filled.within in
    let is = λ (runs : BodyKind) (name : List ℕ). is_kind body.kind runs && bytes_eq body.name name in
    rw placed.1 (record {
      within = omega arith;
      rest = behind;
      holds = λ runs name.
          placed.0 runs name
          ∙ ap (cond (is runs name) (Some count)) (filled.holds runs name)
          ∙ ap (λ (v : ℕ). cond (is runs name) (Some v) (last_place (take count bodies) runs name)) (sym long)
          ∙ sym (last_place-push (take count bodies) body runs name)
          ∙ ap (λ (v : List Declared). last_place v runs name) (sym front);
    })

-- one more line is read into the table
pub line_placed : (old new : Declarations) (bodies more : List Declared) (count next : ℕ) (here : Option Declared) → IsDeclared old new count next here → Filled old bodies count (option_to_list here ++ more) → Filled new bodies next more
line_placed old new bodies more count next (Some body) placed filled =
    one_placed old new bodies more count next body placed filled
line_placed old new bodies more count next None placed filled = rw (placed.1, placed.0) filled

-- all lines are read
pub all_placed : (table : Declarations) (bodies more : List Declared) (count : ℕ) → Filled table bodies count more → more ≡ [] → Holds table bodies
all_placed table bodies more count filled none runs name =
    filled.holds runs name
    ∙ ap (λ (v : List Declared). last_place v runs name) (take_all count bodies (omega (arith, length-drop count bodies, ap length filled.rest, ap length none)))

-- a line declares at most one body
pub next_within : (old new : Declarations) (count next : ℕ) (here : Option Declared) → IsDeclared old new count next here → next ≤ count + 1
next_within old new count next None placed = omega (arith, placed.1)
next_within old new count next (Some body) placed = omega (arith, placed.1)
