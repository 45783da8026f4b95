use Rattle.std.proofs.Common.{◌≡◌, ◌≢◌, List, ℕ, [], ◌∷◌, length, map, None, Bor, refl}
use Rattle.osal_line.specs.Registers.{Registers}
use Rattle.osal_line.specs.Sockets.{socket_send_of}
use Rattle.osal_line.proofs.sockets.socket_send_of.Goals as goal

-- other numbers of words than 3 and 5 are no send
other_number : (words : List (Bor (List ℕ))) (registers : Registers) → length words ≢ 3 → length words ≢ 5 → socket_send_of (map (λ word. word.now) words) registers ≡ None
other_number [] registers three five = refl
other_number (a ∷ []) registers three five = refl
other_number (a ∷ b ∷ []) registers three five = refl
other_number (a ∷ b ∷ c ∷ []) registers three five = absurd (three refl)
other_number (a ∷ b ∷ c ∷ d ∷ []) registers three five = refl
other_number (a ∷ b ∷ c ∷ d ∷ e ∷ []) registers three five = absurd (five refl)
other_number (a ∷ b ∷ c ∷ d ∷ e ∷ f ∷ words) registers three five = refl

pub returns : goal.returns
returns c = other_number c.args.words.now c.args.registers.now c.if-words-eq3.false c.if-words-eq5.false
