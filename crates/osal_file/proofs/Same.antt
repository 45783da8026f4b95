-- Paths are one exactly where they are as long, and one stands within the other.
use Rattle.std.proofs.Common.{◌≡◌, ℕ, true, false, List, [], ◌++◌, length, drop, drop_of_length-le, append-nil, sym, ap, ◌∙◌, inl, inr, arith}
use Rattle.std.proofs.lemmas.Bool.{false_from_ne_true}
use Rattle.osal_tree.specs.Paths.{is_within}
use Rattle.osal_tree.proofs.Maps.{tied, untied}
use Rattle.osal_tree.proofs.Paths.{path_cases, within_rest, within_from}
use Rattle.osal_file.specs.Files.{is_same}

-- a path that stands within one as long is that one
one_path : (at other : List (List ℕ)) → length at ≡ length other → is_within at other ≡ true → at ≡ other
one_path at other long within =
    let split = within_rest at other within in
    let none : drop (length at) other ≡ [] = drop_of_length-le other (omega arith) in
    sym (split ∙ ap (λ rest. at ++ rest) none ∙ append-nil at)

-- a path is as long as itself, and stands within itself
itself : (at : List (List ℕ)) → is_within at at ≡ true
itself at = within_from at at [] (sym (append-nil at))

pub same_where : (at other : List (List ℕ)) → length at ≡ length other → is_same at other ≡ is_within at other
same_where at other long =
    elim (path_cases at other) [
      | inl same ↦ ap (is_same at) (sym same) ∙ tied at ∙ sym (ap (is_within at) (sym same) ∙ itself at)
      | inr ne ↦ untied at other ne ∙ sym (false_from_ne_true (is_within at other) (λ within. ne (one_path at other long within)))
    ]

pub differ_where : (at other : List (List ℕ)) → (length at ≡ length other → ⊥) → is_same at other ≡ false
differ_where at other apart = untied at other (λ same. apart (ap length same))
