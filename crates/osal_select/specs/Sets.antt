-- Sets of streams, each as its identifiers in ascending order.
use Rattle.std.specs.Prelude.{◌==◌, ◌≤◌, ◌+◌, ◌||◌, List, [], ◌∷◌, ℕ, Bool, not, nat_lt, length, filter, if◌then◌else◌}
use Rattle.std.specs.List.{list_any}

-- the most streams of a set
abbrev pub set_limit : ℕ
set_limit = 64

-- whether a stream is in a set
abbrev pub is_in : ℕ → List ℕ → Bool
is_in id set = list_any (λ other. other == id) set

-- a set with a stream more, in its place; one that is there already stands once
abbrev pub with_stream : ℕ → List ℕ → List ℕ
with_stream id [] = id ∷ []
with_stream id (other ∷ others) =
    if other == id then other ∷ others
    else (if nat_lt id other then id ∷ other ∷ others else other ∷ with_stream id others)

-- how many streams of a set come before one
abbrev pub below : ℕ → List ℕ → ℕ
below id [] = 0
below id (other ∷ others) = if nat_lt other id then 1 + below id others else 0

-- a set without a stream
abbrev pub without_stream : ℕ → List ℕ → List ℕ
without_stream id set = filter (λ other. not (other == id)) set

-- whether a set takes a stream: it is there already, or there is room
abbrev pub takes : ℕ → List ℕ → Bool
takes id set = is_in id set || nat_lt (length set) set_limit

-- a set after an add
abbrev pub added : ℕ → List ℕ → List ℕ
added id set = if takes id set then with_stream id set else set

-- a set with the streams of another
abbrev pub joined : List ℕ → List ℕ → List ℕ
joined set [] = set
joined set (id ∷ ids) = joined (with_stream id set) ids

-- the streams of two sets, each once
abbrev pub streams_of : List ℕ → List ℕ → List ℕ
streams_of reads writes = joined (joined [] reads) writes

-- each stream of a list lies above a number, and above those before it
abbrev pub AscendFrom : ℕ → List ℕ → Type 0
AscendFrom least [] = Unit {0}
AscendFrom least (id ∷ ids) = (least ≤ id) × AscendFrom (1 + id) ids

-- a list in ascending order, each stream once
abbrev pub Ascend : List ℕ → Type 0
Ascend ids = AscendFrom 0 ids
