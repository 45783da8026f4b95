-- Datagrams of ports and bytes: how many there are, and one more behind them.
use Rattle.std.proofs.Common.{◌≡◌, ℕ, suc, List, [], ◌∷◌, ◌++◌, length, refl, ap, arith}
use Rattle.osal_socket.specs.Datagram.{Datagram}
use Rattle.osal_socket.specs.Waiting.{datagrams_of}

-- there are as many datagrams as ports
pub length-datagrams : (ports : List ℕ) (messages : List (List ℕ)) → length ports ≡ length messages
    → length (datagrams_of ports messages) ≡ length ports
length-datagrams [] messages each = refl
length-datagrams (port ∷ ports) [] each = absurd (omega arith)
length-datagrams (port ∷ ports) (message ∷ messages) each =
    let rest : length ports ≡ length messages = omega arith in
    ap suc (length-datagrams ports messages rest)

-- one more port and one more message are one more datagram
pub datagrams-push : (ports : List ℕ) (messages : List (List ℕ)) (from : ℕ) (bytes : List ℕ)
    → length ports ≡ length messages
    → datagrams_of (ports ++ from ∷ []) (messages ++ bytes ∷ [])
    ≡ datagrams_of ports messages ++ record { from = from; bytes = bytes } ∷ []
datagrams-push [] [] from bytes each = refl
datagrams-push [] (message ∷ messages) from bytes each = absurd (omega arith)
datagrams-push (port ∷ ports) [] from bytes each = absurd (omega arith)
datagrams-push (port ∷ ports) (message ∷ messages) from bytes each =
    let rest : length ports ≡ length messages = omega arith in
    ap (λ (l : List Datagram). record { from = port; bytes = message } ∷ l) (datagrams-push ports messages from bytes rest)
