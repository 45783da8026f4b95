-- Bytes that are appended to a sink in several calls: all of them, or a prefix.
use Rattle.std.proofs.Common.{◌≡◌, ◌+◌, ◌++◌, ℕ, List, [], length, take, drop, Option, Some, None, refl, sym, ap, ◌∙◌, append_assoc, append-nil, length-append, arith}
use Rattle.std.proofs.Math.Seq.{take-length, take-append-add, take-append_seam}
use Rattle.std.proofs.lemmas.List.{take-append-le, take-append-drop}
use Rattle.osal_outside.specs.Causes.{WhereTold}
use Rattle.osal_outside.specs.Sink.{Appends, AppendsPrefix}

-- nothing was appended
pub none_appended : (a : Option (List ℕ)) → WhereTold a a (Appends [])
none_appended None = tt
none_appended (Some x) = sym (append-nil x)

-- all of the bytes are a prefix of them
pub whole_prefix : (a b : Option (List ℕ)) (bytes : List ℕ) → WhereTold a b (Appends bytes) → WhereTold a b (AppendsPrefix bytes)
whole_prefix None None bytes told = tt
whole_prefix (Some x) (Some y) bytes told =
    record { count = length bytes; within = omega arith; appended = told ∙ ap (λ v. x ++ v) (sym (take-length bytes)) }
whole_prefix None (Some y) bytes told = absurd told
whole_prefix (Some x) None bytes told = absurd told

-- a prefix of the front is one of the whole
pub longer_prefix : (a b : Option (List ℕ)) (front rest : List ℕ) → WhereTold a b (AppendsPrefix front) → WhereTold a b (AppendsPrefix (front ++ rest))
longer_prefix None None front rest told = tt
longer_prefix (Some x) (Some y) front rest told =
    record {
      count = told.count;
      within = let within = told.within in omega (arith, length-append front rest);
      appended = told.appended ∙ ap (λ v. x ++ v) (sym (take-append-le told.count front rest told.within));
    }
longer_prefix None (Some y) front rest told = absurd told
longer_prefix (Some x) None front rest told = absurd told

-- bytes were appended, and then more
pub both_appended : (a b c : Option (List ℕ)) (first second : List ℕ) → WhereTold a b (Appends first) → WhereTold b c (Appends second) → WhereTold a c (Appends (first ++ second))
both_appended None None None first second one two = tt
both_appended (Some x) (Some y) (Some z) first second one two =
    two ∙ ap (λ v. v ++ second) one ∙ append_assoc x first second
both_appended None None (Some z) first second one two = absurd two
both_appended None (Some y) c first second one two = absurd one
both_appended (Some x) None c first second one two = absurd one
both_appended (Some x) (Some y) None first second one two = absurd two

-- bytes were appended, and then a prefix of more
pub then_prefix : (a b c : Option (List ℕ)) (first second : List ℕ) → WhereTold a b (Appends first) → WhereTold b c (AppendsPrefix second) → WhereTold a c (AppendsPrefix (first ++ second))
then_prefix None None None first second one two = tt
then_prefix (Some x) (Some y) (Some z) first second one two =
    record {
      count = length first + two.count;
      within = let within = two.within in omega (arith, length-append first second);
      appended =
          two.appended ∙ ap (λ v. v ++ take two.count second) one ∙ append_assoc x first (take two.count second)
          ∙ ap (λ v. x ++ v) (sym (take-append-add first second two.count));
    }
then_prefix None None (Some z) first second one two = absurd two
then_prefix None (Some y) c first second one two = absurd one
then_prefix (Some x) None c first second one two = absurd one
then_prefix (Some x) (Some y) None first second one two = absurd two

-- a front of a text is a prefix of it
pub front_appended : (a b : Option (List ℕ)) (front rest : List ℕ) → WhereTold a b (Appends front) → WhereTold a b (AppendsPrefix (front ++ rest))
front_appended None None front rest was = tt
front_appended (Some x) (Some y) front rest was = record {
  count = length front;
  within = omega (arith, length-append front rest);
  appended = was ∙ ap (λ v. x ++ v) (sym (take-append_seam front rest));
}
front_appended None (Some y) front rest was = absurd was
front_appended (Some x) None front rest was = absurd was

-- a prefix of a text is a front of it
pub prefix_appended : (a b : Option (List ℕ)) (text : List ℕ) → WhereTold a b (AppendsPrefix text) → (front : List ℕ) × (rest : List ℕ) × (text ≡ front ++ rest) × WhereTold a b (Appends front)
prefix_appended None None text was = ([], text, refl, tt)
prefix_appended (Some x) (Some y) text was =
    (take was.count text, drop was.count text, sym (take-append-drop was.count text), was.appended)
prefix_appended None (Some y) text was = absurd was
prefix_appended (Some x) None text was = absurd was
