use Rattle.std.proofs.Common.{◌≡◌, ◌+◌, ◌<◌, ◌∙◌, ℕ, List, take, drop, get_or, sym, ap, refl, arith}
use Rattle.std.proofs.lemmas.List.{get_or-take, get_or-drop}
use Rattle.osal_call.proofs.firing.handler_at.Goals as goal

in_group : (bytes : List ℕ) (start at i : ℕ) → i < 4 → at ≡ start + (8 + i) → get_or bytes at 0 ≡ get_or (take 4 (drop 8 (drop start bytes))) i 0
in_group bytes start at i within is =
    ap (λ (n : ℕ). get_or bytes n 0) is
    ∙ sym (get_or-drop start bytes (8 + i) 0)
    ∙ sym (get_or-drop 8 (drop start bytes) i 0)
    ∙ sym (get_or-take 4 (drop 8 (drop start bytes)) i 0 within)

pub returns : goal.returns
returns c =
    let bytes = c.args.bytes.now in
    let start = c.args.start in
    let first = in_group bytes start (start + 8) 0 (omega arith) refl in
    let second = in_group bytes start (start + 9) 1 (omega arith) refl in
    let third = in_group bytes start (start + 10) 2 (omega arith) refl in
    let last = in_group bytes start (start + 11) 3 (omega arith) refl in
    omega arith
