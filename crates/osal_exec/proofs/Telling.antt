-- What a driver tells a sink over several of its calls.
use Rattle.std.proofs.Common.{◌≡◌, ◌++◌, ℕ, true, false, cond, List, [], ◌∷◌, length, nat_lt, refl, sym, ap, subst, ◌∙◌, append_assoc, append-nil, arith}
use Rattle.std.proofs.lemmas.Bool.{ltb-false}
use Rattle.osal_base.specs.Limits.{version1}
use Rattle.osal_outside.specs.Causes.{WhereTold}
use Rattle.osal_outside.specs.Sink.{Appends, AppendsPrefix}
use Rattle.osal_outside.proofs.Appended.{none_appended, whole_prefix, longer_prefix, both_appended, then_prefix}
use Rattle.osal_call.specs.declared.call.Entry.{Entry}
use Rattle.osal_console.specs.Console.{ConsoleState, is_pending}
use Rattle.osal_machine.specs.History.{IsLegal, replay}
use Rattle.osal_laws.specs.ConsoleText.{console_text, is_drain, drained, drained_by}
use Rattle.osal_laws.proofs.ConsoleText.{console_kept}
use Rattle.osal_exec.specs.Telling.{Written, Tells, TellsPrefix}

-- entries that drain nothing tell nothing
pub tells_none : (old new : List Entry) (a : Written) → drained new ≡ drained old → Tells old new a a
tells_none old new a same = ([], same ∙ sym (append-nil (drained old)), none_appended a)

-- what is told in full is told as a prefix
pub tells_as_prefix : (old new : List Entry) (a b : Written) → Tells old new a b → TellsPrefix old new a b
tells_as_prefix old new a b tells = (tells.0, tells.1, whole_prefix a b tells.0 tells.2)

-- nothing is a prefix
pub prefix_none : (old new : List Entry) (a : Written) → drained new ≡ drained old → TellsPrefix old new a a
prefix_none old new a same = tells_as_prefix old new a a (tells_none old new a same)

module _ (old mid new : List Entry) where
  -- what both parts drain
  both_drained : (first second : List ℕ) → drained mid ≡ drained old ++ first → drained new ≡ drained mid ++ second → drained new ≡ drained old ++ (first ++ second)
  both_drained first second one two =
      two ∙ ap (λ v. v ++ second) one ∙ append_assoc (drained old) first second

  module _ (a b c : Written) where
    -- what is told, and then more
    pub tells_more : Tells old mid a b → Tells mid new b c → Tells old new a c
    tells_more one two =
        (one.0 ++ two.0, both_drained one.0 two.0 one.1 two.1, both_appended a b c one.0 two.0 one.2 two.2)

    -- what is told, and then a prefix of more
    pub tells_prefix : Tells old mid a b → TellsPrefix mid new b c → TellsPrefix old new a c
    tells_prefix one two =
        (one.0 ++ two.0, both_drained one.0 two.0 one.1 two.1, then_prefix a b c one.0 two.0 one.2 two.2)

  -- what is told, and then entries that drain nothing
  pub tells_same : (a b : Written) → Tells old mid a b → drained new ≡ drained mid → Tells old new a b
  tells_same a b one same = (one.0, same ∙ one.1, one.2)

module _ (old new : List Entry) (a b c : Written) where
  -- all that was drained is told, also with more entries
  pub drained_told : WhereTold a b (Appends (drained old)) → Tells old new b c → WhereTold a c (Appends (drained new))
  drained_told one two =
      subst (λ bytes. WhereTold a c (Appends bytes)) (sym two.1) (both_appended a b c (drained old) two.0 one two.2)

  -- the same of a prefix
  pub drained_prefix : WhereTold a b (Appends (drained old)) → TellsPrefix old new b c → WhereTold a c (AppendsPrefix (drained new))
  drained_prefix one two =
      subst (λ bytes. WhereTold a c (AppendsPrefix bytes)) (sym two.1) (then_prefix a b c (drained old) two.0 one two.2)

-- one more entry drains its bytes
pub drained_push : (entries : List Entry) (entry : Entry) → drained (entries ++ entry ∷ []) ≡ drained entries ++ drained_by entry
drained_push [] entry = append-nil (drained_by entry)
drained_push (first ∷ entries) entry =
    ap (λ bytes. drained_by first ++ bytes) (drained_push entries entry)
    ∙ sym (append_assoc (drained_by first) (drained entries) (drained_by entry))

-- one more entry that is no drain
pub undrained_push : (entries : List Entry) (entry : Entry) → is_drain entry.call ≡ false → drained (entries ++ entry ∷ []) ≡ drained entries
undrained_push entries entry other =
    drained_push entries entry
    ∙ ap (λ b. drained entries ++ cond b entry.reply.bytes.bytes []) other
    ∙ append-nil (drained entries)

-- no byte is pending where the test says so
pub none_pending : (console : ConsoleState) → is_pending console ≡ false → console.pending ≡ []
none_pending console none = by_list console.pending none
  where
    by_list : (pending : List ℕ) → nat_lt 0 (length pending) ≡ false → pending ≡ []
    by_list [] none = refl
    by_list (x ∷ pending) none = let most = ltb-false 0 (length (x ∷ pending)) none in absurd (omega arith)

module _ (entries : List Entry) (legal : IsLegal version1 entries) (a b : Written) where
  -- where no byte is pending all of the console text was told
  pub text_told : (replay version1 entries).console.pending ≡ [] → WhereTold a b (Appends (drained entries)) → WhereTold a b (Appends (console_text entries))
  text_told none told =
      subst (λ bytes. WhereTold a b (Appends bytes)) (sym (console_kept version1 entries legal ∙ ap (λ pending. drained entries ++ pending) none ∙ append-nil (drained entries))) told

  -- a prefix of what was drained is one of the console text
  pub text_prefix : WhereTold a b (AppendsPrefix (drained entries)) → WhereTold a b (AppendsPrefix (console_text entries))
  text_prefix told =
      subst (λ bytes. WhereTold a b (AppendsPrefix bytes)) (sym (console_kept version1 entries legal)) (longer_prefix a b (drained entries) (replay version1 entries).console.pending told)

module _ (old new : List Entry) (entry : Entry) (pushed : new ≡ old ++ entry ∷ []) where
  -- an entry that is no drain leaves what was drained
  pub drained_still : is_drain entry.call ≡ false → drained new ≡ drained old
  drained_still other = ap drained pushed ∙ undrained_push old entry other

  -- a drain gives the bytes of its reply
  drained_more : is_drain entry.call ≡ true → drained new ≡ drained old ++ entry.reply.bytes.bytes
  drained_more drains =
      ap drained pushed ∙ drained_push old entry ∙ ap (λ b. drained old ++ cond b entry.reply.bytes.bytes []) drains

  module _ (a b : Written) (drains : is_drain entry.call ≡ true) where
    -- a drain whose bytes were appended
    pub drain_tells : WhereTold a b (Appends entry.reply.bytes.bytes) → Tells old new a b
    drain_tells told = (entry.reply.bytes.bytes, drained_more drains, told)

    -- a drain of whose bytes a prefix was appended
    pub drain_tells_prefix : WhereTold a b (AppendsPrefix entry.reply.bytes.bytes) → TellsPrefix old new a b
    drain_tells_prefix told = (entry.reply.bytes.bytes, drained_more drains, told)
