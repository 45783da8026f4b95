-- What was written to a file lies within it.
use Rattle.std.proofs.Common.{◌≡◌, ◌==◌, ◌+◌, ◌-◌, ◌≤◌, ℕ, Bool, true, false, cond, List, [], ◌∷◌, ◌++◌, length, take, drop, replicate, length-append, length-take, Option, Some, None, Result, Ok, Err, ap, ◌∙◌, arith}
use Rattle.std.specs.FinMap as map
use Rattle.std.proofs.lemmas.List.{length-replicate}
use Rattle.osal_blocks.specs.Blocks.{overwritten}
use Rattle.osal_volume.specs.declared.fault.VolFault.{VolFault}
use Rattle.osal_volume.specs.declared.fault.VolFault.TheVariants as fault
use Rattle.osal_volume.specs.Volume.{Content, Dir, Bytes, VolumeState, content_at, with_node}
use Rattle.osal_volume.specs.Steps.{fitting, written, write_step}
use Rattle.osal_volume.proofs.Sums.{put_here}
use Rattle.osal_file.specs.Streams.{length_of}

-- bytes with a piece at a place reach behind the piece
reaches : (bytes : List ℕ) (place : ℕ) (piece : List ℕ) → place + length piece ≤ length (overwritten bytes place piece)
reaches bytes place piece =
    let front = length-take place bytes in
    let gap : length (replicate {A = ℕ} (place - length bytes) 0) ≡ place - length bytes = length-replicate (place - length bytes) 0 in
    let first = length-append (take place bytes) (replicate (place - length bytes) 0 ++ (piece ++ drop (place + length piece) bytes)) in
    let second = length-append (replicate (place - length bytes) 0) (piece ++ drop (place + length piece) bytes) in
    let third = length-append piece (drop (place + length piece) bytes) in
    omega arith

module _ (state : VolumeState) (name : List ℕ) (rest : List (List ℕ)) (place : ℕ) (payload : List ℕ) (count : ℕ) (after : VolumeState) where
  abbrev at : List (List ℕ)
  at = name ∷ rest

  abbrev Answered : Type 0
  Answered = Result ℕ VolFault × VolumeState

  put_reaches : (bytes : List ℕ) (n : ℕ) → n ≤ length payload → (none : Bool) → ◌≡◌ {A = Answered} (Ok count, after) (cond none (Err fault.NoSpace, state) (Ok n, with_node state at (Bytes (overwritten bytes place (take n payload))))) → place + count ≤ length_of (content_at after at)
  put_reaches bytes n fits true e = let clash = ap (λ p. p.0) e in absurd cc
  put_reaches bytes n fits false e =
      let told = ap (λ p. p.0) e in
      let all : count ≡ n = cc in
      let there : content_at after at ≡ Some (Bytes (overwritten bytes place (take n payload))) =
      ap (λ p. map.get p.1.nodes at) e ∙ put_here state.nodes at (Bytes (overwritten bytes place (take n payload))) in
      let long = ap length_of there in
      let piece = length-take n payload in
      omega (arith, reaches bytes place (take n payload))

  file_reaches : (there : Option Content) → (Ok count, after) ≡ written state at place payload there → place + count ≤ length_of (content_at after at)
  file_reaches None e = let clash = ap (λ p. p.0) e in absurd cc
  file_reaches (Some Dir) e = let clash = ap (λ p. p.0) e in absurd cc
  file_reaches (Some (Bytes bytes)) e =
      let fits : fitting state bytes place (length payload) ≤ length payload = omega arith in
      put_reaches bytes (fitting state bytes place (length payload)) fits (fitting state bytes place (length payload) == 0) e

-- what was written lies within the file
pub written_within : (state : VolumeState) (at : List (List ℕ)) (place : ℕ) (payload : List ℕ) (count : ℕ) (after : VolumeState) → (Ok count, after) ≡ write_step state at place payload → place + count ≤ length_of (content_at after at)
written_within state [] place payload count after e = let clash = ap (λ p. p.0) e in absurd cc
written_within state (name ∷ rest) place payload count after e =
    file_reaches state name rest place payload count after (map.get state.nodes (name ∷ rest)) e
