-- The names in a directory of a volume are those in the tree's.
use Rattle.std.proofs.Common.{◌≡◌, ◌++◌, ◌∷◌, [], ℕ, List, Option, None, Some, is_some, option_map, refl, sym, ap, ◌∙◌}
use Rattle.std.specs.FinMap as map
use Rattle.osal_tree.specs.declared.kind.Kind.{Kind}
use Rattle.osal_tree.specs.declared.kind.Kind.TheVariants as kind
use Rattle.osal_tree.specs.declared.kind.TreeFault.{TreeFault}
use Rattle.osal_tree.specs.Nodes.{Nodes, node_at}
use Rattle.osal_tree.specs.Listing as tree
use Rattle.osal_blocks.specs.Blocks.{BlocksState}
use Rattle.osal_volume.specs.Faults.{vol_fault}
use Rattle.osal_volume.specs.Volume.{content_at}
use Rattle.osal_volume.specs.Listing.{listing_fault, or_memory, IsListing}
use Rattle.osal_volume.specs.Whole.{content_of, volume_of}
use Rattle.osal_volume.proofs.Held.{content_seen, get_volume}
use Rattle.osal_volume.proofs.Calls.{there_as}

module _ (nodes : Nodes) (blocks : BlocksState) (at : List (List ℕ)) where
  fault_seen : (o : Option Kind) → listing_fault (option_map (content_of blocks) o) ≡ option_map vol_fault (tree.listing_fault o)
  fault_seen None = refl
  fault_seen (Some kind.Directory) = refl
  fault_seen (Some (kind.File number)) = refl

  memory_seen : (o : Option TreeFault) → vol_fault (tree.or_memory o) ≡ or_memory (option_map vol_fault o)
  memory_seen None = refl
  memory_seen (Some why) = refl

  refusal_is : listing_fault (content_at (volume_of nodes blocks) at) ≡ option_map vol_fault (tree.listing_fault (node_at nodes at))
  refusal_is = ap listing_fault (content_seen nodes blocks at) ∙ fault_seen (node_at nodes at)

  -- the names are those that the tree lists
  pub listing_is : (names : List (List ℕ)) → tree.IsListing nodes at names → IsListing (volume_of nodes blocks) at names
  listing_is names listed = record {
    allowed = refusal_is ∙ ap (option_map vol_fault) listed.allowed;
    ascending = listed.ascending;
    exact = λ name.
        listed.exact name ∙ sym (ap is_some (get_volume nodes blocks (at ++ name ∷ [])) ∙ there_as nodes blocks (map.get nodes (at ++ name ∷ [])));
  }

  -- and the refusal is the tree's
  pub list_refused : (why : TreeFault) → why ≡ tree.or_memory (tree.listing_fault (node_at nodes at)) → vol_fault why ≡ or_memory (listing_fault (content_at (volume_of nodes blocks) at))
  list_refused why is = ap vol_fault is ∙ memory_seen (tree.listing_fault (node_at nodes at)) ∙ sym (ap or_memory refusal_is)
