-- What the words of a call on files choose: how a file is opened, and the place that a seek leads to.
use Rattle.std.specs.Prelude.{◌^◌, ◌==◌, List, [], ◌∷◌, ℕ, Option, Some, None, pos, codes, option_map, if◌then◌else◌}
use Rattle.std.proofs.Common.{ℤ}
use Rattle.std.specs.Str.{bytes_eq}
use Rattle.osal_base.specs.declared.arguments.OpenFlags.{OpenFlags}
use Rattle.osal_base.specs.declared.arguments.OpenFlags.TheVariants as flags
use Rattle.osal_base.specs.declared.arguments.Access.{Access}
use Rattle.osal_base.specs.declared.arguments.Access.TheVariants as access
use Rattle.osal_base.specs.declared.arguments.Whence.{Whence}
use Rattle.osal_base.specs.declared.arguments.Whence.TheVariants as whence
use Rattle.osal_line.specs.Values.{number_below, negated}

-- what an opening does to the file
abbrev pub flags_of : List ℕ → Option OpenFlags
flags_of word =
    if bytes_eq word (codes "none") then Some flags.Neither
    else (if bytes_eq word (codes "create") then Some flags.Create
    else (if bytes_eq word (codes "truncate") then Some flags.Truncate
    else (if bytes_eq word (codes "both") then Some flags.Both
    else None)))

-- what a file is opened for: to read, to write, or both
abbrev pub access_of : List ℕ → Option Access
access_of word =
    if bytes_eq word (codes "ro") then Some access.Ro
    else (if bytes_eq word (codes "wo") then Some access.Wo
    else (if bytes_eq word (codes "rw") then Some access.Rw
    else None))

-- from where a seek counts
abbrev pub whence_of : List ℕ → Option Whence
whence_of word =
    if bytes_eq word (codes "set") then Some whence.Set
    else (if bytes_eq word (codes "cur") then Some whence.Cur
    else (if bytes_eq word (codes "end") then Some whence.End
    else None))

-- how far a seek goes: a number of 32 bits, which may have a minus sign
abbrev pub offset_of : List ℕ → Option ℤ
offset_of [] = None
offset_of (byte ∷ bytes) =
    if byte == 45 then option_map negated (number_below (2 ^ 32) bytes)
    else option_map pos (number_below (2 ^ 32) (byte ∷ bytes))
