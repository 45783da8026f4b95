-- A file that is read in pieces.
use Rattle.std.proofs.Common.{◌≡◌, ◌≤◌, ◌<◌, ℕ, List, [], ◌∷◌, ◌++◌, length, Option, Some, None, Result, Ok, Err, refl, sym, ap, ◌∙◌, append_assoc, length-append, append-nil, arith}
use Rattle.std.specs.Result.{IsErrAnd}
use Rattle.std.specs.declared.vec.Vec.{Vec}
use Rattle.std.specs.declared.alloc.Global.{Global}
use Rattle.osal_outside.specs.Causes.{WhereTold}
use Rattle.osal_outside.specs.Shelf.{ShelfContent}
use Rattle.osal_run.specs.declared.load.ReadFault.{ReadFault}
use Rattle.osal_run.specs.declared.load.ReadFault.TheVariants as read_fault
use Rattle.osal_run.specs.Checks.{file_limit}
use Rattle.osal_run.specs.Loading.{IfTold, ReadsPiece, HasRead, ReadsFile, seen_bytes}

-- nothing was read at first
pub none_read : (a : Option ShelfContent) → WhereTold a a (HasRead [])
none_read None = tt
none_read (Some x) = refl

-- one more piece
pub more_read : (a b c : Option ShelfContent) (before after : List ℕ) (n : ℕ) → WhereTold a b (HasRead before) → WhereTold b c (ReadsPiece n before after) → WhereTold a c (HasRead after)
more_read None None None before after n first second = tt
more_read (Some x) (Some y) (Some z) before after n first second =
    first ∙ ap (λ v. before ++ v) second.3 ∙ sym (append_assoc before second.0 z.rest) ∙ ap (λ v. v ++ z.rest) (sym second.1)
more_read None None (Some z) before after n first second = absurd second
more_read None (Some y) c before after n first second = absurd first
more_read (Some x) None c before after n first second = absurd first
more_read (Some x) (Some y) None before after n first second = absurd second

-- a list of no elements
no_elements : (xs : List ℕ) → length xs ≡ 0 → xs ≡ []
no_elements [] none = refl
no_elements (x ∷ xs) none = absurd (omega arith)

-- a piece of no bytes is the end: what was read is the whole rest
pub whole_read : (a b c : Option ShelfContent) (before after : List ℕ) (n : ℕ) → n ≡ 0 → length after ≤ file_limit → WhereTold a b (HasRead before) → WhereTold b c (ReadsPiece n before after) → ReadsFile a (Ok after)
whole_read None None None before after n none short first second = record { bytes = after; told = tt; read = (refl, short) }
whole_read (Some x) (Some y) (Some z) before after n none short first second =
    let same : after ≡ before = second.1 ∙ ap (λ v. before ++ v) (no_elements second.0 (second.2 ∙ none)) ∙ append-nil before in
    let whole : after ≡ x.rest = same ∙ sym (append-nil before) ∙ ap (λ v. before ++ v) (sym (second.4 none)) ∙ sym first in
    record { bytes = after; told = sym whole; read = (refl, short) }
whole_read None None (Some z) before after n none short first second = absurd second
whole_read None (Some y) c before after n none short first second = absurd first
whole_read (Some x) None c before after n none short first second = absurd first
whole_read (Some x) (Some y) None before after n none short first second = absurd second

-- more was read than a file may have
pub larger_read : (a b : Option ShelfContent) (bytes : List ℕ) → file_limit < length bytes → WhereTold a b (HasRead bytes) → ReadsFile a (Err read_fault.Larger)
larger_read None None bytes larger told = record { bytes = bytes; told = tt; read = larger }
larger_read (Some x) (Some y) bytes larger told =
    record { bytes = x.rest; told = refl; read = omega (arith, ap length told, length-append bytes y.rest) }
larger_read None (Some y) bytes larger told = absurd told
larger_read (Some x) None bytes larger told = absurd told

-- what a shelf tells of the rest, or any bytes
abbrev pub rest_of : Option ShelfContent → List ℕ
rest_of None = []
rest_of (Some told) = told.rest

-- they are told, where any are
pub rest_told : (a : Option ShelfContent) → IfTold a (λ told. told.rest ≡ rest_of a)
rest_told None = tt
rest_told (Some told) = refl

-- nothing is said of a file that was not read
pub untold_read : (a : Option ShelfContent) (fault : ReadFault) → (fault ≡ read_fault.Larger → ⊥) → ReadsFile a (Err fault)
untold_read a read_fault.Larger other = absurd (other refl)
untold_read a read_fault.Source other = record { bytes = rest_of a; told = rest_told a; read = tt }
untold_read a read_fault.Memory other = record { bytes = rest_of a; told = rest_told a; read = tt }

-- a fault, as the answer of a read
abbrev ErrOf : ReadFault → Result ℕ ReadFault
ErrOf fault = Err fault

-- the same of a vector that was not read
pub untold_result : (a : Option ShelfContent) (result : Result (Vec ℕ Global) ReadFault) (fault : ReadFault) → IsErrAnd result (λ given. given ≡ fault) → (ErrOf fault ≡ ErrOf read_fault.Larger → ⊥) → ReadsFile a (seen_bytes result)
untold_result a (Ok bytes) fault is other = absurd is
untold_result a (Err given) fault is other = untold_read a given (λ larger. other (ap ErrOf (sym is ∙ larger)))
