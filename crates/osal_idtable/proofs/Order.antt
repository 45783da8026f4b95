-- The order of the slots by their names: what a search finds in it, and what an edit leaves.
use Rattle.std.proofs.Common.{◌≡◌, ◌<◌, ◌≤◌, ◌⊎◌, ◌+◌, ◌-◌, ℕ, zero, suc, eqb, true, false, List, [], ◌∷◌, length, get_or, Option, Some, None, Result, Ok, Err, refl, sym, ap, subst, ◌∙◌, inl, inr, arith}
use Rattle.std.specs.List.{insert, remove, list_any}
use Rattle.std.specs.List.Sorted.{IsSearchInRange, IsBinarySearchResult, IsNonDecreasingBy}
use Rattle.std.specs.Prelude.{MatchResult}
use Rattle.std.specs.Ordering.{nat_cmp, ordering_index, ordering_reverse, is_eq}
use Rattle.std.specs.Cmp.Lexicographic.{slice_cmp, nat_list_cmp_total}
use Rattle.std.specs.declared.cmp.Ordering.{Ordering}
use Rattle.std.specs.declared.cmp.Ordering.TheVariants.{Less, Equal, Greater}
use Rattle.std.proofs.lemmas.Bool.{cases_eq, cases_lt, false≢true}
use Rattle.std.proofs.lemmas.Bool.Decides.{nat_tests}
use Rattle.std.proofs.lemmas.List.{get_or_default}
use Rattle.std.proofs.lemmas.List.Edits.{length-insert, get_or-insert_below, get_or-insert_at, get_or-insert_above, length-remove, get_or-remove_below, get_or-remove_above}
use Rattle.std.proofs.lemmas.List.Sorted.{IsNonDecreasingBy-from_default}
use Rattle.std.proofs.lemmas.Map.Keys.{IsDistinct-from_apart}
use Rattle.std.proofs.lemmas.Map.Steps.{length-le_from_distinct_below}
use Rattle.std.proofs.lemmas.Map.Text.{is_eq-slice_cmp}
use Rattle.std.proofs.lemmas.Slice.Eq.{bytes_eq-Decides}
use Rattle.osal_idtable.specs.Order.{name_cmp, listed, Ordered, IsPlaceOf, IsGapFor}

some_none : {X : Type 0} (x : X) → Some x ≡ None → ⊥
some_none x e = cc

-- texts that compare as equal are the same
equal_same : (a b : List ℕ) → slice_cmp nat_cmp a b ≡ Equal → a ≡ b
equal_same a b e = (bytes_eq-Decides a b).0 (sym (is_eq-slice_cmp a b) ∙ ap is_eq e)

-- no text is before itself
not_before : (a : List ℕ) → slice_cmp nat_cmp a a ≡ Less → ⊥
not_before a less =
    false≢true (ap is_eq (sym less) ∙ is_eq-slice_cmp a a ∙ (bytes_eq-Decides a a).1 refl)

-- a lesser text is less than what equals or follows the other
before_equal : (a b name : List ℕ) → slice_cmp nat_cmp a b ≡ Less → slice_cmp nat_cmp b name ≡ Equal → slice_cmp nat_cmp a name ≡ Less
before_equal a b name less e = subst (λ q. slice_cmp nat_cmp a q ≡ Less) (equal_same b name e) less

rise : (p q : Ordering) → (q ≡ Less → p ≡ Less) → (q ≡ Equal → p ≡ Less) → ordering_index p ≤ ordering_index q
rise Less Less f g = omega arith
rise Less Equal f g = omega arith
rise Less Greater f g = omega arith
rise Equal Less f g = let e = f refl in cc
rise Equal Equal f g = omega arith
rise Equal Greater f g = omega arith
rise Greater Less f g = let e = f refl in cc
rise Greater Equal f g = let e = g refl in cc
rise Greater Greater f g = omega arith

equal_is : (o : Option (List ℕ)) (name : List ℕ) → name_cmp o name ≡ Equal → o ≡ Some name
equal_is None name e = cc
equal_is (Some other) name e = ap Some (equal_same other name e)

module _ (names : ℕ → Option (List ℕ)) (order : List ℕ) (ordered : Ordered names order) where
  -- two places of one name are the same
  same_place : (place other : ℕ) (name : List ℕ) → place < length order → other < length order → names (listed order place) ≡ Some name → names (listed order other) ≡ Some name → place ≡ other
  same_place place other name less under is also =
      elim (cases_lt place other) [
        | inl first ↦ absurd (not_before name (ordered.rising place other name name first under is also))
        | inr from ↦ elim (cases_eq place other) [
          | inl same ↦ same
          | inr ne ↦ absurd (not_before name (ordered.rising other place name name (omega arith) less also is))
        ]
      ]

  -- a name stands in one slot
  pub one_slot : (at other : ℕ) (name : List ℕ) → names at ≡ Some name → names other ≡ Some name → at ≡ other
  one_slot at other name is also =
      let p = ordered.whole at name is in
      let q = ordered.whole other name also in
      let same = same_place p.0 q.0 name p.1 q.1 (ap names p.2 ∙ is) (ap names q.2 ∙ also) in
      sym p.2 ∙ ap (listed order) same ∙ q.2

  -- comparisons with a name rise along the order
  compares_rise : (name : List ℕ) → IsNonDecreasingBy (λ at. ordering_index (name_cmp (names at) name)) order
  compares_rise name = IsNonDecreasingBy-from_default (λ at. ordering_index (name_cmp (names at) name)) order 0 (λ i j le under.
      elim (cases_eq i j) [
        | inl same ↦ rw same (omega arith)
        | inr ne ↦
            let a = ordered.named i (omega arith) in
            let b = ordered.named j under in
            let less = ordered.rising i j a.0 b.0 (omega arith) under a.1 b.1 in
            rw (a.1, b.1) (rise (slice_cmp nat_cmp a.0 name) (slice_cmp nat_cmp b.0 name)
            (λ e. nat_list_cmp_total.trans a.0 b.0 name less e)
            (λ e. before_equal a.0 b.0 name less e))
      ])

  -- what a search by halves finds
  pub searched : (name : List ℕ) (r : Result ℕ ℕ) → IsSearchInRange r (length order) → IsBinarySearchResult (λ at. name_cmp (names at) name) order r → MatchResult r (IsPlaceOf names order name) (IsGapFor names order name)
  searched name (Ok place) under equal = record {
    within = under;
    here = equal_is (names (listed order place)) name (equal 0);
  }
  searched name (Err place) under parted =
      let parts = parted (compares_rise name) in record {
        within = under;
        before = λ earlier other less is. sym (ap (λ o. name_cmp o name) is) ∙ parts.0 earlier 0 (omega arith) less;
        after = λ later other from less is.
            let greater : slice_cmp nat_cmp other name ≡ Greater = sym (ap (λ o. name_cmp o name) is) ∙ parts.1 later 0 from less in
            nat_list_cmp_total.antisymm name other ∙ ap ordering_reverse greater;
      }

  -- a name with a gap stands nowhere
  pub gap_none : (name : List ℕ) (gap : ℕ) → IsGapFor names order name gap → (at : ℕ) → names at ≡ Some name → ⊥
  gap_none name gap is_gap at is =
      let p = ordered.whole at name is in
      let here = ap names p.2 ∙ is in
      elim (cases_lt p.0 gap) [
        | inl less ↦ not_before name (is_gap.before p.0 name less here)
        | inr from ↦ not_before name (is_gap.after p.0 name from p.1 here)
      ]

-- the same names in another list of slots
pub same_names : (names others : ℕ → Option (List ℕ)) (order : List ℕ) → ((at : ℕ) → others at ≡ names at) → Ordered names order → Ordered others order
same_names names others order same ordered = record {
  named = λ place less. let w = ordered.named place less in (w.0, same _ ∙ w.1);
  rising = λ place later name next first less is also. ordered.rising place later name next first less (sym (same _) ∙ is) (sym (same _) ∙ also);
  whole = λ at name is. ordered.whole at name (sym (same at) ∙ is);
}

module _ (names others : ℕ → Option (List ℕ)) (order : List ℕ) (ordered : Ordered names order) (at : ℕ) (apart : (i : ℕ) → (i ≡ at → ⊥) → others i ≡ names i) where
  module _ (name : List ℕ) (gap : ℕ) (is_gap : IsGapFor names order name gap) (was : names at ≡ None) (is : others at ≡ Some name) where
    longer : length (insert order gap at) ≡ length order + 1
    longer = length-insert order gap at is_gap.within

    old : (place : ℕ) → place < length order → others (listed order place) ≡ names (listed order place)
    old place less = apart (listed order place) (λ same.
        let w = ordered.named place less in some_none w.0 (sym w.1 ∙ ap names same ∙ was))

    below : (place : ℕ) → place < gap → listed (insert order gap at) place ≡ listed order place
    below place less = get_or-insert_below order gap at 0 place less is_gap.within

    here : listed (insert order gap at) gap ≡ at
    here = get_or-insert_at order gap at 0 is_gap.within

    above : (place : ℕ) → gap < place → listed (insert order gap at) place ≡ listed order (place - 1)
    above place more =
        let next : place ≡ place - 1 + 1 = omega arith in
        ap (listed (insert order gap at)) next ∙ get_or-insert_above order gap at 0 (place - 1) (omega arith) is_gap.within

    -- where a place of the new order comes from
    abbrev Comes : ℕ → List ℕ → Type 0
    Comes place word = ((place < gap) × (names (listed order place) ≡ Some word)) ⊎ (((place ≡ gap) × (word ≡ name)) ⊎ ((gap < place) × (names (listed order (place - 1)) ≡ Some word)))

    comes : (place : ℕ) (word : List ℕ) → place < length (insert order gap at) → others (listed (insert order gap at) place) ≡ Some word → Comes place word
    comes place word less told =
        let count = longer in
        let within = is_gap.within in
        elim (cases_lt place gap) [
          | inl first ↦ inl (first, sym (ap others (below place first) ∙ old place (omega arith)) ∙ told)
          | inr from ↦ elim (cases_eq place gap) [
            | inl same ↦
                let both : Some name ≡ Some word = sym is ∙ ap others (sym (ap (listed (insert order gap at)) same ∙ here)) ∙ told in
                let value : word ≡ name = cc in inr (inl (same, value))
            | inr ne ↦
                let more : gap < place = omega arith in
                inr (inr (more, sym (ap others (above place more) ∙ old (place - 1) (omega arith)) ∙ told))
          ]
        ]

    -- a name is listed at its gap
    pub listed_in : Ordered others (insert order gap at)
    listed_in =
        let count = longer in
        let within = is_gap.within in record {
          named = λ place less. elim (cases_lt place gap) [
            | inl first ↦
                let w = ordered.named place (omega arith) in
                (w.0, ap others (below place first) ∙ old place (omega arith) ∙ w.1)
            | inr from ↦ elim (cases_eq place gap) [
              | inl same ↦ (name, ap others (ap (listed (insert order gap at)) same ∙ here) ∙ is)
              | inr ne ↦
                  let w = ordered.named (place - 1) (omega arith) in
                  (w.0, ap others (above place (omega arith)) ∙ old (place - 1) (omega arith) ∙ w.1)
            ]
          ];
          rising = λ place later first second less under told also.
              elim (comes place first (omega arith) told) [
                | inl p ↦ elim (comes later second under also) [
                  | inl q ↦ let b = q.0 in ordered.rising place later first second less (omega arith) p.1 q.1
                  | inr q ↦ elim q [
                    | inl q ↦ rw q.1 (is_gap.before place first p.0 p.1)
                    | inr q ↦
                        let a = p.0 in
                        let b = q.0 in
                        ordered.rising place (later - 1) first second (omega arith) (omega arith) p.1 q.1
                  ]
                ]
                | inr p ↦ elim p [
                  | inl p ↦ elim (comes later second under also) [
                    | inl q ↦
                        let a = p.0 in
                        let b = q.0 in absurd (omega arith)
                    | inr q ↦ elim q [
                      | inl q ↦
                          let a = p.0 in
                          let b = q.0 in absurd (omega arith)
                      | inr q ↦
                          let b = q.0 in
                          rw p.1 (is_gap.after (later - 1) second (omega arith) (omega arith) q.1)
                    ]
                  ]
                  | inr p ↦ elim (comes later second under also) [
                    | inl q ↦
                        let a = p.0 in
                        let b = q.0 in absurd (omega arith)
                    | inr q ↦ elim q [
                      | inl q ↦
                          let a = p.0 in
                          let b = q.0 in absurd (omega arith)
                      | inr q ↦
                          let a = p.0 in
                          ordered.rising (place - 1) (later - 1) first second (omega arith) (omega arith) p.1 q.1
                    ]
                  ]
                ]
              ];
          whole = λ i word told. elim (cases_eq i at) [
            | inl same ↦ (gap, omega arith, here ∙ sym same)
            | inr ne ↦
                let p = ordered.whole i word (sym (apart i ne) ∙ told) in
                let under = p.1 in
                elim (cases_lt p.0 gap) [
                  | inl first ↦ (p.0, omega arith, below p.0 first ∙ p.2)
                  | inr from ↦ (p.0 + 1, omega arith, get_or-insert_above order gap at 0 p.0 from within ∙ p.2)
                ]
          ];
        }

  module _ (name : List ℕ) (out : ℕ) (place_of : IsPlaceOf names order name out) (stands : names at ≡ Some name) (gone : others at ≡ None) where
    shorter : length (remove order out) + 1 ≡ length order
    shorter = length-remove order out place_of.within

    -- the place is the one of the slot
    this : listed order out ≡ at
    this = one_slot names order ordered (listed order out) at name place_of.here stands

    rest : (place : ℕ) → place < length order → (place ≡ out → ⊥) → others (listed order place) ≡ names (listed order place)
    rest place less ne = apart (listed order place) (λ same. ne (same_place names order ordered place out name less place_of.within (ap names same ∙ stands) place_of.here))

    -- where a place of the new order comes from
    record From (place : ℕ) : Type 0 where
      was : ℕ
      under : was < length order
      same : others (listed (remove order out) place) ≡ names (listed order was)
      moved : ((place < out) × (was ≡ place)) ⊎ ((out ≤ place) × (was ≡ place + 1))

    from : (place : ℕ) → place < length (remove order out) → From place
    from place less =
        let count = shorter in
        let within = place_of.within in
        elim (cases_lt place out) [
          | inl first ↦ record {
            was = place;
            under = omega arith;
            same = ap others (get_or-remove_below order out 0 place first within) ∙ rest place (omega arith) (λ e. omega arith);
            moved = inl (first, refl);
          }
          | inr back ↦ record {
            was = place + 1;
            under = omega arith;
            same = ap others (get_or-remove_above order out 0 place back within) ∙ rest (place + 1) (omega arith) (λ e. omega arith);
            moved = inr (back, refl);
          }
        ]

    still : (place later was next : ℕ) → place < later → ((place < out) × (was ≡ place)) ⊎ ((out ≤ place) × (was ≡ place + 1)) → ((later < out) × (next ≡ later)) ⊎ ((out ≤ later) × (next ≡ later + 1)) → was < next
    still place later was next less (inl p) (inl q) = let a = p.1 in let b = q.1 in omega arith
    still place later was next less (inl p) (inr q) = let a = p.1 in let b = q.1 in omega arith
    still place later was next less (inr p) (inl q) =
        let a = p.0 in
        let b = q.0 in absurd (omega arith)
    still place later was next less (inr p) (inr q) = let a = p.1 in let b = q.1 in omega arith

    -- a name is taken out of the order
    pub taken_out : Ordered others (remove order out)
    taken_out =
        let count = shorter in
        let within = place_of.within in record {
          named = λ place less.
              let f = from place less in
              let w = ordered.named f.was f.under in (w.0, f.same ∙ w.1);
          rising = λ place later first second less under told also.
              let f = from place (omega arith) in
              let g = from later under in
              ordered.rising f.was g.was first second (still place later f.was g.was less f.moved g.moved) g.under (sym f.same ∙ told) (sym g.same ∙ also);
          whole = λ i word told.
              let ne : i ≡ at → ⊥ = λ same. some_none word (sym told ∙ ap others same ∙ gone) in
              let p = ordered.whole i word (sym (apart i ne) ∙ told) in
              let under = p.1 in
              elim (cases_lt p.0 out) [
                | inl first ↦ (p.0, omega arith, get_or-remove_below order out 0 p.0 first within ∙ p.2)
                | inr back ↦ elim (cases_eq p.0 out) [
                  | inl same ↦ absurd (ne (sym p.2 ∙ ap (listed order) same ∙ this))
                  | inr other ↦
                      let next : p.0 - 1 + 1 ≡ p.0 = omega arith in
                      (p.0 - 1, omega arith, get_or-remove_above order out 0 (p.0 - 1) (omega arith) within ∙ ap (listed order) next ∙ p.2)
                ]
              ];
        }

each_below : (ns : List ℕ) (n : ℕ) → ((i : ℕ) → i < length ns → get_or ns i 0 < n) → (q : ℕ) → list_any (eqb q) ns ≡ true → q < n
each_below [] n under q is = cc
each_below (m ∷ ns) n under q is =
    elim (cases_eq q m) [
      | inl same ↦ let first = under 0 (omega arith) in omega arith
      | inr ne ↦ each_below ns n (λ i less. under (suc i) (omega arith)) q (grind (arith, nat_tests))
    ]

-- while a slot has no name, the order has room for one more
pub room_left : (names : ℕ → Option (List ℕ)) (order : List ℕ) (n at : ℕ) → Ordered names order → at < n → names at ≡ None → ((i : ℕ) (name : List ℕ) → names i ≡ Some name → i < n) → length order < n
room_left names order n at ordered less none within =
    let named_below : (i : ℕ) → i < length order → listed order i < n = λ i under. let w = ordered.named i under in within (listed order i) w.0 w.1 in
    let free : (i : ℕ) → i < length order → listed order i ≡ at → ⊥ = λ i under same. let w = ordered.named i under in some_none w.0 (sym w.1 ∙ ap names same ∙ none) in
    length-le_from_distinct_below (at ∷ order) n
    (IsDistinct-from_apart eqb (at ∷ order) (distinct free))
    (each_below (at ∷ order) n (λ i under. below_all named_below i under))
  where
    below_all : ((i : ℕ) → i < length order → listed order i < n) → (i : ℕ) → i < length (at ∷ order) → get_or (at ∷ order) i 0 < n
    below_all under zero l = less
    below_all under (suc i) l = under i (omega arith)

    differ : (a b : ℕ) → (a ≡ b → ⊥) → eqb a b ≡ false
    differ a b ne = grind (arith, nat_tests)

    distinct : ((i : ℕ) → i < length order → listed order i ≡ at → ⊥) → (i j d : ℕ) → i < j → j < length (at ∷ order) → eqb (get_or (at ∷ order) i d) (get_or (at ∷ order) j d) ≡ false
    distinct free zero zero d first under = absurd (omega arith)
    distinct free zero (suc j) d first under = differ at (get_or order j d) (λ same. free j (omega arith) (get_or_default order j 0 d (omega arith) ∙ sym same))
    distinct free (suc i) zero d first under = absurd (omega arith)
    distinct free (suc i) (suc j) d first under = differ (get_or order i d) (get_or order j d) (λ same.
        let a = ordered.named i (omega arith) in
        let b = ordered.named j (omega arith) in
        let here : listed order i ≡ listed order j = get_or_default order i 0 d (omega arith) ∙ same ∙ get_or_default order j d 0 (omega arith) in
        let one = same_place names order ordered i j a.0 (omega arith) (omega arith) a.1 (ap names (sym here) ∙ a.1) in
        omega arith)
