-- A node of a volume is moved with all that is below it, as the tree moves it.
use Rattle.std.proofs.Common.{◌≡◌, ◌≤◌, ◌==◌, ◌||◌, ℕ, Bool, true, false, cond, not, nat_lt, is_some, is_none, List, [], ◌∷◌, ◌++◌, length, drop, append-nil, append_assoc, length-append, Option, None, Some, option_map, Ok, Err, refl, sym, ap, subst, ◌∙◌, arith}
use Rattle.std.specs.FinMap as map
use Rattle.std.proofs.lemmas.Bool.{or_parts, and_from, false_from_ne_true}
use Rattle.std.proofs.lemmas.Bool.Decides.{nat_tests}
use Rattle.osal_tree.specs.declared.kind.Kind.{Kind}
use Rattle.osal_tree.specs.declared.kind.Kind.TheVariants as kind
use Rattle.osal_tree.specs.declared.kind.TreeFault.{TreeFault}
use Rattle.osal_tree.specs.declared.kind.TreeFault.TheVariants as refusal
use Rattle.osal_tree.specs.Paths.{is_within, is_below, parent_of}
use Rattle.osal_tree.specs.Nodes.{Nodes, node_at, IsTree, IsFresh}
use Rattle.osal_tree.specs.Nodes as tree
use Rattle.osal_tree.specs.Steps as tree_step
use Rattle.osal_tree.proofs.Paths.{by_last, clash, within_rest, within_fits}
use Rattle.osal_blocks.specs.Blocks.{BlocksState}
use Rattle.osal_volume.specs.declared.fault.VolFault.{VolFault}
use Rattle.osal_volume.specs.declared.fault.VolFault.TheVariants as fault
use Rattle.osal_volume.specs.Faults.{vol_fault}
use Rattle.osal_volume.specs.Volume.{content_at, is_directory}
use Rattle.osal_volume.specs.Renames.{rename_fault, renamed}
use Rattle.osal_volume.specs.Whole.{content_of, volume_of, IsWhole}
use Rattle.osal_volume.proofs.Held.{Held, content_seen}
use Rattle.osal_volume.proofs.Moves.{held_rename}
use Rattle.osal_volume.proofs.Calls.{there_as, directory_as}

unless : (b : Bool) (why : TreeFault) (rest : Option TreeFault) → cond b (Some why) rest ≡ None → (b ≡ false) × (rest ≡ None)
unless true why rest e = absurd cc
unless false why rest e = (refl, e)

at_once : (b : Bool) (why : TreeFault) (rest : Option TreeFault) → b ≡ true → cond b (Some why) rest ≡ Some why
at_once true why rest e = refl
at_once false why rest e = absurd cc

some_from : (o : Option Kind) → is_none o ≡ false → is_some o ≡ true
some_from None e = absurd cc
some_from (Some x) e = refl

none_from : (o : Option Kind) → is_some o ≡ false → o ≡ None
none_from None e = refl
none_from (Some x) e = absurd cc

no_rest : (rest : List (List ℕ)) → length rest ≤ 0 → rest ≡ []
no_rest [] e = refl
no_rest (x ∷ rest) e = absurd (omega arith)

abbrev tested : Bool → Bool → Bool → Bool → Option VolFault
tested missing homeless wrong taken =
    cond missing (Some fault.NotFound) (cond homeless (Some fault.NotFound) (cond wrong (Some fault.WrongKind) (cond taken (Some fault.Exists) None)))

shape : (a b c d : Bool) → tested a b c d ≡ option_map vol_fault (cond a (Some refusal.NotFound) (cond b (Some refusal.NotFound) (cond c (Some refusal.WrongKind) (cond d (Some refusal.Exists) None))))
shape true b c d = refl
shape false true c d = refl
shape false false true d = refl
shape false false false true = refl
shape false false false false = refl

module _ (nodes : Nodes) (good : IsTree nodes) (from to : List (List ℕ)) where
  no_node : (q : List (List ℕ)) (name : List ℕ) → node_at nodes q ≡ None → (o : Option Kind) → map.get nodes (q ++ name ∷ []) ≡ o → o ≡ None
  no_node q name none None e = refl
  no_node q name none (Some there) e = let home : None ≡ Some kind.Directory = sym none ∙ good.homes q name there e in absurd cc

  stands_not : (q : List (List ℕ)) → map.get nodes q ≡ None → (q ≡ [] → ⊥) → node_at nodes q ≡ None
  stands_not [] e some = absurd (some refl)
  stands_not (name ∷ rest) e some = e

  got_none : (q : List (List ℕ)) → node_at nodes q ≡ None → map.get nodes q ≡ None
  got_none [] e = absurd cc
  got_none (name ∷ rest) e = e

  not_nil : (q : List (List ℕ)) (name : List ℕ) → q ++ name ∷ [] ≡ [] → ⊥
  not_nil q name e = let n : length (q ++ name ∷ []) ≡ 0 = ap length e in omega (arith, length-append q (name ∷ []))

  past : node_at nodes to ≡ None → (rest : List (List ℕ)) → node_at nodes (to ++ rest) ≡ None
  past none =
      by_last (λ rest. node_at nodes (to ++ rest) ≡ None) (ap (node_at nodes) (append-nil to) ∙ none)
      (λ rest last told.
      ap (node_at nodes) (sym (append_assoc to rest (last ∷ []))) ∙ stands_not ((to ++ rest) ++ last ∷ []) (no_node (to ++ rest) last told _ refl) (not_nil (to ++ rest) last))

  -- where nothing stands at a path, nothing stands below it
  all_clear : node_at nodes to ≡ None → (q : List (List ℕ)) → is_within to q ≡ true → map.get nodes q ≡ None
  all_clear none q t = got_none q (ap (node_at nodes) (within_rest to q t) ∙ past none (drop (length to) q))

  not_within : is_below from to ≡ false → is_some (node_at nodes from) ≡ true → is_some (node_at nodes to) ≡ false → is_within from to ≡ false
  not_within off there free =
      false_from_ne_true (is_within from to) (λ t.
      let fits = within_fits from to t in
      let deep : nat_lt (length from) (length to) ≡ false = false_from_ne_true (nat_lt (length from) (length to)) (λ less. clash (is_below from to) (and_from (is_within from to) (nat_lt (length from) (length to)) t less) off) in
      let as_long : length to ≤ length from = grind (arith, nat_tests) in
      let split = within_rest from to t in
      let rest : drop (length from) to ≡ [] = no_rest (drop (length from) to) (let total = ap length split in omega (arith, length-append from (drop (length from) to))) in
      let same : to ≡ from = split ∙ ap (λ l. from ++ l) rest ∙ append-nil from in
      clash (is_some (node_at nodes to)) (ap (λ q. is_some (node_at nodes q)) same ∙ there) free)

  module _ (blocks : BlocksState) (whole : IsWhole nodes blocks) where
    -- what is allowed in the tree makes the same of the volume
    allowed_held : tree_step.rename_fault nodes from to ≡ None → Held (tree_step.renamed nodes from to) blocks (renamed (volume_of nodes blocks) from to)
    allowed_held fine =
        let first = unless _ _ _ fine in
        let second = unless _ _ _ first.1 in
        let third = unless _ _ _ second.1 in
        let fourth = unless _ _ _ third.1 in
        let kinds = or_parts _ _ third.0 in
        let outside = not_within (or_parts _ _ kinds.1).1 (some_from (node_at nodes from) first.0) fourth.0 in
        held_rename from to outside nodes (all_clear (none_from (node_at nodes to) fourth.0)) blocks whole

module _ (nodes : Nodes) (blocks : BlocksState) (from to : List (List ℕ)) where
  none_as : (o : Option Kind) → is_none (option_map (content_of blocks) o) ≡ is_none o
  none_as None = refl
  none_as (Some there) = refl

  -- the tree's fault is the volume's
  pub moving_seen : rename_fault (volume_of nodes blocks) from to ≡ option_map vol_fault (tree_step.rename_fault nodes from to)
  moving_seen =
      let missing : is_none (content_at (volume_of nodes blocks) from) ≡ is_none (node_at nodes from) = ap is_none (content_seen nodes blocks from) ∙ none_as (node_at nodes from) in
      let home : is_directory (content_at (volume_of nodes blocks) (parent_of to)) ≡ tree.is_directory (node_at nodes (parent_of to)) = ap is_directory (content_seen nodes blocks (parent_of to)) ∙ directory_as nodes blocks (node_at nodes (parent_of to)) in
      let taken : is_some (content_at (volume_of nodes blocks) to) ≡ is_some (node_at nodes to) = ap is_some (content_seen nodes blocks to) ∙ there_as nodes blocks (node_at nodes to) in
      (λ i. tested (missing i) (not (home i)) ((length from == 0) || ((length to == 0) || is_below from to)) (taken i))
      ∙ shape (is_none (node_at nodes from)) (not (tree.is_directory (node_at nodes (parent_of to)))) ((length from == 0) || ((length to == 0) || is_below from to)) (is_some (node_at nodes to))

  -- what the tree has done
  moved_ok : {left : Nodes} (why : Option TreeFault) → (Ok tt, left) ≡ tree_step.shifted nodes from to why → (why ≡ None) × (left ≡ tree_step.renamed nodes from to)
  moved_ok None e = (refl, ap (λ p. p.1) e)
  moved_ok (Some why) e = let clash = ap (λ p. p.0) e in absurd cc

  moved_err : {left : Nodes} (told : TreeFault) (why : Option TreeFault) → (Err told, left) ≡ tree_step.shifted nodes from to why → (why ≡ Some told) × (left ≡ nodes)
  moved_err told None e = let clash = ap (λ p. p.0) e in absurd cc
  moved_err told (Some why) e = let same = ap (λ p. p.0) e in let is : why ≡ told = cc in (ap Some is, ap (λ p. p.1) e)

  module _ {left : Nodes} where
    -- after a move the tree is the volume in which it was made
    pub rename_held : IsTree nodes → IsWhole nodes blocks → (Ok tt, left) ≡ tree_step.rename_step nodes from to → Held left blocks (renamed (volume_of nodes blocks) from to)
    rename_held good whole told =
        let done = moved_ok _ told in
        subst (λ n. Held n blocks (renamed (volume_of nodes blocks) from to)) (sym done.1) (allowed_held nodes good from to blocks whole done.0)

    -- a move that the tree allows is allowed
    pub rename_none : (Ok tt, left) ≡ tree_step.rename_step nodes from to → rename_fault (volume_of nodes blocks) from to ≡ None
    rename_none told = moving_seen ∙ ap (option_map vol_fault) (moved_ok _ told).0

    -- what the tree refuses is refused
    pub rename_some : (why : TreeFault) → (Err why, left) ≡ tree_step.rename_step nodes from to → rename_fault (volume_of nodes blocks) from to ≡ Some (vol_fault why)
    rename_some why told = moving_seen ∙ ap (option_map vol_fault) (moved_err why _ told).0

    -- a refused move leaves the tree
    pub rename_kept : (why : TreeFault) → (Err why, left) ≡ tree_step.rename_step nodes from to → left ≡ nodes
    rename_kept why told = (moved_err why _ told).1

  -- nothing is there to move
  pub rename_missing : is_some (node_at nodes from) ≡ false → rename_fault (volume_of nodes blocks) from to ≡ Some fault.NotFound
  rename_missing e = moving_seen ∙ ap (option_map vol_fault) (at_once _ _ _ (ap is_none (none_from (node_at nodes from) e)))
