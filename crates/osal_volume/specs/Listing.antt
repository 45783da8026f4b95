-- The names in a directory of a volume.
use Rattle.std.specs.Prelude.{◌≡◌, ◌++◌, List, [], ◌∷◌, ℕ, Option, Some, None, is_some}
use Rattle.std.specs.List.{list_any}
use Rattle.std.specs.List.Sorted.{IsStrictlySortedBy}
use Rattle.std.specs.Str.{bytes_eq}
use Rattle.std.specs.Ordering.{nat_cmp}
use Rattle.std.specs.Cmp.Lexicographic.{slice_cmp}
use Rattle.std.specs.FinMap as map
use Rattle.osal_volume.specs.declared.fault.VolFault.{VolFault}
use Rattle.osal_volume.specs.declared.fault.VolFault.TheVariants as fault
use Rattle.osal_volume.specs.Volume.{Content, Dir, Bytes, VolumeState, content_at}

-- why what stands at a path has no names in it
abbrev pub listing_fault : Option Content → Option VolFault
listing_fault None = Some fault.NotFound
listing_fault (Some (Bytes bytes)) = Some fault.WrongKind
listing_fault (Some Dir) = None

-- the fault, or that there was no memory where nothing else is in the way
abbrev pub or_memory : Option VolFault → VolFault
or_memory None = fault.OutOfMemory
or_memory (Some why) = why

-- the names in a directory, in the order of their bytes, each once
pub record IsListing (state : VolumeState) (at : List (List ℕ)) (names : List (List ℕ)) : Type 0 where
  pub allowed : listing_fault (content_at state at) ≡ None
  pub ascending : IsStrictlySortedBy (slice_cmp nat_cmp) names
  pub exact : (name : List ℕ) → list_any (bytes_eq name) names ≡ is_some (map.get state.nodes (at ++ name ∷ []))
