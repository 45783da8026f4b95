-- How a volume is stored, so that it can be the value of a struct.
use Rattle.std.specs.Prelude.{◌≡◌, ℕ, List, Option, Some, None, refl}
use Rattle.std.specs.Coded.{Coded, code_by, coded_ℕ, coded_list, coded_option, coded×}
use Rattle.std.specs.FinMap as map
use Rattle.osal_tree.specs.Paths.{path_cmp}
use Rattle.osal_volume.specs.Volume.{Content, Dir, Bytes, VolumeState}

-- the bytes of a file, and none of a directory
abbrev pub bytes_in : Content → Option (List ℕ)
bytes_in Dir = None
bytes_in (Bytes bytes) = Some bytes

-- a file with the bytes, or else a directory
abbrev pub with_bytes : Option (List ℕ) → Content
with_bytes None = Dir
with_bytes (Some bytes) = Bytes bytes

-- the bytes give their content back
pub bytes_back : (content : Content) → with_bytes (bytes_in content) ≡ content
bytes_back Dir = refl
bytes_back (Bytes bytes) = refl

-- a content is stored as its bytes
abbrev pub content_code : Coded Content
content_code = code_by (Option (List ℕ)) (coded_option (coded_list coded_ℕ)) bytes_in with_bytes bytes_back

-- a volume is stored as the pair of its fields
abbrev pub volume_code : Coded VolumeState
volume_code =
    code_by
    (ℕ × map.FinMap path_cmp Content)
    (coded× coded_ℕ (map.code (coded_list (coded_list coded_ℕ)) content_code))
    (λ s. (s.total, s.nodes))
    (λ p. record { total = p.0; nodes = p.1 })
    (λ _. refl)
