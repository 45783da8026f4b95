-- A text that is written in pieces: what was sent so far is a front of it.
use Rattle.std.proofs.Common.{◌≡◌, ℕ, List, [], ◌++◌, Option, sym, ap, ◌∙◌, append_assoc, append-nil}
use Rattle.osal_outside.specs.Causes.{WhereTold}
use Rattle.osal_outside.specs.Sink.{Appends, AppendsPrefix}
use Rattle.osal_outside.proofs.Appended.{both_appended, front_appended, prefix_appended}
use Rattle.osal_journal.specs.Writing.{IsSentTo}

-- a piece of what was left is sent
piece_sent : {text piece left : List ℕ} {a b c : Option (List ℕ)} (rest : List ℕ) → IsSentTo text (piece ++ rest) a b → IsSentTo piece left b c → IsSentTo text (left ++ rest) a c
piece_sent {left = left} {a = a} {b = b} {c = c} rest so_far more = record {
  sent = so_far.sent ++ more.sent;
  split =
      so_far.split ∙ ap (λ v. so_far.sent ++ (v ++ rest)) more.split
      ∙ ap (λ v. so_far.sent ++ v) (append_assoc more.sent left rest)
      ∙ sym (append_assoc so_far.sent more.sent (left ++ rest));
  told = both_appended a b c so_far.sent more.sent so_far.told more.told;
}

-- a piece is sent, and the line in front of what is left moves behind what is left of the piece
pub line_moved : {text piece left rest : List ℕ} {a b c : Option (List ℕ)} (line grown after : List ℕ) → rest ≡ line ++ after → grown ≡ left ++ line → IsSentTo text (piece ++ rest) a b → IsSentTo piece left b c → IsSentTo text (grown ++ after) a c
line_moved {left = left} {rest = rest} line grown after next is so_far more =
    let sent = piece_sent rest so_far more in
    record {
      sent = sent.sent;
      split =
          sent.split ∙ ap (λ v. sent.sent ++ (left ++ v)) next
          ∙ ap (λ v. sent.sent ++ v) (sym (append_assoc left line after))
          ∙ ap (λ v. sent.sent ++ (v ++ after)) (sym is);
      told = sent.told;
    }

-- a piece was sent: a prefix of the text is written
pub piece_prefix : {text piece left : List ℕ} {a b c : Option (List ℕ)} (rest : List ℕ) → IsSentTo text (piece ++ rest) a b → IsSentTo piece left b c → WhereTold a c (AppendsPrefix text)
piece_prefix {left = left} {a = a} {c = c} rest so_far more =
    let sent = piece_sent rest so_far more in
    rw sent.split (front_appended a c sent.sent (left ++ rest) sent.told)

-- the sink failed within a piece: a prefix of the text is written
pub failed_prefix : {text : List ℕ} {a b : Option (List ℕ)} (c : Option (List ℕ)) (bytes piece rest : List ℕ) → bytes ≡ piece → IsSentTo text (piece ++ rest) a b → WhereTold b c (AppendsPrefix bytes) → WhereTold a c (AppendsPrefix text)
failed_prefix {b = b} c bytes piece rest is so_far failed =
    let (front, back, split, was) = prefix_appended b c bytes failed in
    piece_prefix rest so_far (record { sent = front; split = sym is ∙ split; told = was })

-- the last piece is sent: the whole text is written
pub all_sent : {text : List ℕ} {a b : Option (List ℕ)} (c : Option (List ℕ)) (bytes piece rest : List ℕ) → bytes ≡ piece → rest ≡ [] → IsSentTo text (piece ++ rest) a b → WhereTold b c (Appends bytes) → WhereTold a c (Appends text)
all_sent {a = a} {b = b} c bytes piece rest is none so_far last =
    rw (so_far.split, none, append-nil piece, ← is) (both_appended a b c so_far.sent bytes so_far.told last)
