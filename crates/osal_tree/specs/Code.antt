-- How a tree is stored, so that it can be the value of a struct.
use Rattle.std.specs.Prelude.{◌≡◌, ℕ, Option, Some, None, refl}
use Rattle.std.specs.Coded.{Coded, code_by, coded_ℕ, coded_list, coded_option}
use Rattle.std.specs.FinMap as map
use Rattle.osal_tree.specs.declared.kind.Kind.{Kind}
use Rattle.osal_tree.specs.declared.kind.Kind.TheVariants as kind
use Rattle.osal_tree.specs.Nodes.{Nodes}

-- the number of a file
abbrev pub number_of : Kind → Option ℕ
number_of kind.Directory = None
number_of (kind.File number) = Some number

-- what has the number, if there is one
abbrev pub numbered : Option ℕ → Kind
numbered None = kind.Directory
numbered (Some number) = kind.File number

-- the number gives its kind back
pub numbered_back : (there : Kind) → numbered (number_of there) ≡ there
numbered_back kind.Directory = refl
numbered_back (kind.File number) = refl

-- a kind is stored as its number
abbrev pub kind_code : Coded Kind
kind_code = code_by (Option ℕ) (coded_option coded_ℕ) number_of numbered numbered_back

-- a tree is stored as the list of its nodes
abbrev pub nodes_code : Coded Nodes
nodes_code = map.code (coded_list (coded_list coded_ℕ)) kind_code
