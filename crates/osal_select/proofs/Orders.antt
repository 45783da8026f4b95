-- Lists of streams in ascending order: what an add, a clear and a join make of them.
use Rattle.std.proofs.Common.{◌≡◌, ◌≤◌, ◌<◌, ◌+◌, ◌==◌, ◌||◌, ℕ, suc, List, [], ◌∷◌, Bool, true, false, length, drop, get_or, drop-cons, add-one, length-drop, filter, cond, nat_lt, inl, inr, refl, sym, ap, ◌∙◌, arith}
use Rattle.std.specs.List.{insert, list_any}
use Rattle.std.proofs.lemmas.Bool.Decides.{leb_tells, eqb_tells}
use Rattle.osal_select.specs.Sets.{is_in, with_stream, below, joined, AscendFrom, Ascend}

-- how a stream stands to one of a set, with what the tests of with_stream and of below say
data Order (id other : ℕ) : Type 0 where
  Before : (other == id) ≡ false → nat_lt id other ≡ true → nat_lt other id ≡ false → id < other → Order id other
  There : (other == id) ≡ true → other ≡ id → Order id other
  Behind : (other == id) ≡ false → nat_lt id other ≡ false → nat_lt other id ≡ true → other < id → Order id other

-- two streams stand to each other in one of three ways
order : (id other : ℕ) → Order id other
order id other = elim (eqb_tells other id) [
  | inl same ↦ There same.0 same.1
  | inr apart ↦ elim (leb_tells (suc id) other) [
    | inl less ↦ elim (leb_tells (suc other) id) [
      | inl more ↦ absurd (omega arith)
      | inr rest ↦ Before apart.0 less.0 rest.0 less.1
    ]
    | inr more ↦ elim (leb_tells (suc other) id) [
      | inl less ↦ Behind apart.0 more.0 less.0 less.1
      | inr rest ↦ absurd (omega arith)
    ]
  ]
]

-- a stream below all of an ascending list is not in it
pub absent_below : (id least : ℕ) (ids : List ℕ) → id < least → AscendFrom least ids → is_in id ids ≡ false
absent_below id least [] under up = refl
absent_below id least (other ∷ others) under up = elim (order id other) [
  | Before apart _ _ _ ↦ rw apart (absent_below id (1 + other) others (omega arith) up.1)
  | There _ same ↦ absurd (omega arith)
  | Behind _ _ _ more ↦ absurd (omega arith)
]

-- an ascending list has no stream twice
pub stands_once : (id : ℕ) (ids : List ℕ) → Ascend (id ∷ ids) → list_any (λ other. other == id) ids ≡ false
stands_once id ids up = absent_below id (1 + id) ids (omega arith) up.1

-- a lower bound may be lowered
pub from_lower : (least low : ℕ) (ids : List ℕ) → least ≤ low → AscendFrom low ids → AscendFrom least ids
from_lower least low [] under up = tt
from_lower least low (id ∷ ids) under up = (omega arith, up.1)

-- either branch of a test
either : {A : Type 0} (P : A → Type 0) (b : Bool) (x y : A) → P x → P y → P (cond b x y)
either P true x y p q = p
either P false x y p q = q

-- what a test leaves of an ascending list ascends
pub filter_ascends : (passes : ℕ → Bool) (least : ℕ) (ids : List ℕ) → AscendFrom least ids → AscendFrom least (filter passes ids)
filter_ascends passes least [] up = tt
filter_ascends passes least (id ∷ ids) up =
    let rest = filter_ascends passes (1 + id) ids up.1 in
    either (AscendFrom least) (passes id) _ _ (up.0, rest) (from_lower least (1 + id) _ (omega arith) rest)

-- a stream more keeps the order
pub with_ascends_from : (least id : ℕ) (ids : List ℕ) → least ≤ id → AscendFrom least ids → AscendFrom least (with_stream id ids)
with_ascends_from least id [] under up = (under, tt)
with_ascends_from least id (other ∷ others) under up = elim (order id other) [
  | Before apart less _ before ↦ rw (apart, less) (under, (omega arith, up.1))
  | There there _ ↦ rw there up
  | Behind apart more _ behind ↦ rw (apart, more) (up.0, with_ascends_from (1 + other) id others (omega arith) up.1)
]

-- a stream more keeps the order of a set
pub with_ascends : (id : ℕ) (ids : List ℕ) → Ascend ids → Ascend (with_stream id ids)
with_ascends id ids up = with_ascends_from 0 id ids (omega arith) up

-- a stream that is there changes nothing
pub with_there : (least id : ℕ) (ids : List ℕ) → AscendFrom least ids → is_in id ids ≡ true → with_stream id ids ≡ ids
with_there least id [] up there = cc
with_there least id (other ∷ others) up there = elim (order id other) [
  | Before apart less _ before ↦
      let none : is_in id (other ∷ others) ≡ false = rw apart (absent_below id (1 + other) others (omega arith) up.1) in
      cc
  | There here _ ↦ rw here refl
  | Behind apart more _ _ ↦
      let later : is_in id others ≡ true = rw apart at there in
      rw (apart, more) (ap (λ l. other ∷ l) (with_there (1 + other) id others up.1 later))
]

-- a stream that is not there is put behind those below it
pub with_inserted : (id : ℕ) (ids : List ℕ) → is_in id ids ≡ false → insert ids (below id ids) id ≡ with_stream id ids
with_inserted id [] none = refl
with_inserted id (other ∷ others) none = elim (order id other) [
  | Before apart less rest _ ↦ rw (apart, less, rest) refl
  | There here _ ↦
      let both : is_in id (other ∷ others) ≡ true = rw here refl in
      cc
  | Behind apart more less _ ↦
      let later : is_in id others ≡ false = rw apart at none in
      let later_by_one : 1 + below id others ≡ suc (below id others) = omega arith in
      rw (apart, more, less, later_by_one) (ap (λ l. other ∷ l) (with_inserted id others later))
]

-- a set has at most one stream more
pub with_length : (id : ℕ) (ids : List ℕ) → length (with_stream id ids) ≤ 1 + length ids
with_length id [] = omega arith
with_length id (other ∷ others) = elim (order id other) [
  | Before apart less _ _ ↦ rw (apart, less) (omega arith)
  | There here _ ↦ rw here (omega arith)
  | Behind apart more _ _ ↦ rw (apart, more) (omega (arith, with_length id others))
]

-- either test first
either_first : (a b c : Bool) → (a || (b || c)) ≡ (b || (a || c))
either_first true true c = refl
either_first true false c = refl
either_first false true c = refl
either_first false false c = refl

-- a test twice
twice : (a b : Bool) → (a || b) ≡ (a || (a || b))
twice true b = refl
twice false b = refl

-- the streams of a set with one more
pub is_in_with : (one id : ℕ) (ids : List ℕ) → is_in one (with_stream id ids) ≡ ((id == one) || is_in one ids)
is_in_with one id [] = refl
is_in_with one id (other ∷ others) = elim (order id other) [
  | Before apart less _ _ ↦ rw (apart, less) refl
  | There here same ↦ rw (here, same) (twice (id == one) (is_in one others))
  | Behind apart more _ _ ↦
      rw (apart, more) (ap (λ b. (other == one) || b) (is_in_with one id others) ∙ either_first (other == one) (id == one) (is_in one others))
]

-- two sets joined ascend
pub joined_ascends : (set ids : List ℕ) → Ascend set → Ascend (joined set ids)
joined_ascends set [] up = up
joined_ascends set (id ∷ ids) up = joined_ascends (with_stream id set) ids (with_ascends id set up)

-- two sets joined have at most the streams of both
pub joined_length : (set ids : List ℕ) → length (joined set ids) ≤ length set + length ids
joined_length set [] = omega arith
joined_length set (id ∷ ids) = omega (arith, joined_length (with_stream id set) ids, with_length id set)

-- two sets of at most 64 streams joined have at most 128
pub joined_bound : (set ids : List ℕ) → length set ≤ 64 → length ids ≤ 64 → length (joined set ids) ≤ 128
joined_bound set ids one other = omega (arith, joined_length set ids)

-- one of three tests, in another order
third_first : (a b c : Bool) → ((a || b) || c) ≡ (b || (a || c))
third_first true true c = refl
third_first true false c = refl
third_first false true c = refl
third_first false false c = refl

-- a test that fails adds nothing
none_behind : (a : Bool) → a ≡ (a || false)
none_behind true = refl
none_behind false = refl

-- two sets joined have the streams of both, and no others
pub is_in_joined : (one : ℕ) (set ids : List ℕ) → is_in one (joined set ids) ≡ (is_in one set || is_in one ids)
is_in_joined one set [] = none_behind (is_in one set)
is_in_joined one set (id ∷ ids) =
    is_in_joined one (with_stream id set) ids
    ∙ ap (λ b. b || is_in one ids) (is_in_with one id set)
    ∙ third_first (id == one) (is_in one set) (is_in one ids)

-- a set that is not full has room for one more
pub with_room : (id : ℕ) (ids : List ℕ) (full : Bool) → full ≡ (length ids == 64) → full ≡ false → length ids ≤ 64 → length (with_stream id ids) ≤ 64
with_room id ids full is not_full most =
    let apart : (length ids == 64) ≡ false = sym is ∙ not_full in
    elim (eqb_tells (length ids) 64) [
      | inl same ↦ cc
      | inr other ↦ omega (arith, with_length id ids)
    ]

-- a join goes on with its next stream
pub joined_next : (set ids : List ℕ) (k d : ℕ) → k < length ids → joined set (drop k ids) ≡ joined (with_stream (get_or ids k d) set) (drop (k + 1) ids)
joined_next set ids k d there = rw (add-one, drop-cons ids k d) refl

-- a join has room for its next stream
pub joined_room : (set ids : List ℕ) (id k : ℕ) → k < length ids → length set + length (drop k ids) ≤ 128 → length (with_stream id set) + length (drop (k + 1) ids) ≤ 128
joined_room set ids id k there room = omega (arith, with_length id set, length-drop k ids, length-drop (k + 1) ids)
