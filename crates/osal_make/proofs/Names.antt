-- The names that the numbers of workers make: what their words stand for, and that each is another.
use Rattle.std.proofs.Common.{◌≡◌, ◌≤◌, ◌^◌, ◌/◌, ℕ, List, Bool, true, false, Option, Some, None, map, length, bytes_eq, refl, ap, arith}
use Rattle.std.specs.Fmt.{digits, decimal}
use Rattle.std.proofs.lemmas.Bool.{false_from_ne_true}
use Rattle.std.proofs.lemmas.Fmt.{decimal_injective}
use Rattle.std.proofs.lemmas.Slice.Eq.{bytes_eq-Decides}
use Rattle.osal_base.specs.declared.name.NameFault.{NameFault}
use Rattle.osal_base.specs.Name.{name_fault}
use Rattle.osal_line.specs.Values.{is_body_name, string_of, number_below}
use Rattle.osal_make.specs.MakeText.{counted, worker_name, queue_name}
use Rattle.osal_make.proofs.Counted.{at_counted}
use Rattle.osal_make.proofs.Forms.{quoted}

-- what the words that a number makes stand for
pub record Numbered : Type 0 where
  pub is_body : Bool
  pub fault : Option NameFault
  pub message : Option (List ℕ)
  pub blocks : ℕ
  pub queue : Option (List ℕ)
  pub count : Option ℕ

abbrev numbered : ℕ → Numbered
numbered k = record {
  is_body = is_body_name (worker_name k);
  fault = name_fault (worker_name k);
  message = string_of (quoted (worker_name k));
  blocks = length (worker_name k) / 64;
  queue = string_of (quoted (queue_name k));
  count = number_below (2 ^ 32) (decimal k);
}

abbrev well_numbered : ℕ → Numbered
well_numbered k = record {
  is_body = true;
  fault = None;
  message = Some (worker_name k);
  blocks = 0;
  queue = Some (queue_name k);
  count = Some k;
}

all_numbered : map numbered (counted 60 1) ≡ map well_numbered (counted 60 1)
unfolding digits
all_numbered = refl

each_numbered : (k : ℕ) → 1 ≤ k → k ≤ 60 → numbered k ≡ well_numbered k
each_numbered k some few = at_counted numbered well_numbered 60 1 k all_numbered some (omega arith)

-- the name of a worker is that of a body
pub name_is_body : (k : ℕ) → 1 ≤ k → k ≤ 60 → is_body_name (worker_name k) ≡ true
name_is_body k some few = ap (λ (n : Numbered). n.is_body) (each_numbered k some few)

-- nothing is wrong with it
pub name_is_good : (k : ℕ) → 1 ≤ k → k ≤ 60 → name_fault (worker_name k) ≡ None
name_is_good k some few = ap (λ (n : Numbered). n.fault) (each_numbered k some few)

-- between quotation marks it stands for itself
pub message_is_name : (k : ℕ) → 1 ≤ k → k ≤ 60 → string_of (quoted (worker_name k)) ≡ Some (worker_name k)
message_is_name k some few = ap (λ (n : Numbered). n.message) (each_numbered k some few)

-- it has fewer than 64 bytes
pub message_is_short : (k : ℕ) → 1 ≤ k → k ≤ 60 → length (worker_name k) / 64 ≡ 0
message_is_short k some few = ap (λ (n : Numbered). n.blocks) (each_numbered k some few)

-- the name of its queue stands for itself too
pub queue_is_name : (k : ℕ) → 1 ≤ k → k ≤ 60 → string_of (quoted (queue_name k)) ≡ Some (queue_name k)
queue_is_name k some few = ap (λ (n : Numbered). n.queue) (each_numbered k some few)

-- the digits of a number spell it
pub digits_are_count : (n : ℕ) → 1 ≤ n → n ≤ 60 → number_below (2 ^ 32) (decimal n) ≡ Some n
digits_are_count n some few = ap (λ (k : Numbered). k.count) (each_numbered n some few)

-- a name is the same as itself
pub same_name : (name : List ℕ) → bytes_eq name name ≡ true
same_name name = (bytes_eq-Decides name name).1 refl

-- two workers have two names
pub other_name : (j k : ℕ) → j ≤ 60 → k ≤ 60 → (j ≡ k → ⊥) → bytes_eq (worker_name j) (worker_name k) ≡ false
other_name j k few also other =
    false_from_ne_true (bytes_eq (worker_name j) (worker_name k)) (λ same.
    let names : worker_name j ≡ worker_name k = (bytes_eq-Decides (worker_name j) (worker_name k)).0 same in
    let digits_are : decimal j ≡ decimal k = cc in
    other (decimal_injective j k (omega arith) (omega arith) digits_are))
