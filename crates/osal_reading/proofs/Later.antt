-- Each body of a text names later bodies alone, each handler is bare, and there are at most 64 bodies.
use Rattle.std.proofs.Common.{◌≡◌, ◌≤◌, ◌+◌, ◌^◌, ◌==◌, ◌||◌, ◌&&◌, ℕ, suc, List, [], ◌∷◌, ◌++◌, true, false, Option, Some, None, Result, Ok, Err, length, ltb, leb, sym, subst, refl, arith}
use Rattle.std.specs.List.{AllByRecursion, list_all}
use Rattle.std.proofs.lemmas.Bool.{cond_both, leb-false}
use Rattle.std.proofs.lemmas.List.{length_push}
use Rattle.osal_line.specs.declared.kind.BodyKind.{BodyKind}
use Rattle.osal_line.specs.declared.kind.BodyKind.TheVariants as kind
use Rattle.osal_line.specs.declared.line.ScriptCall.{ScriptCall}
use Rattle.osal_line.specs.declared.expectation.Expect.{Expect}
use Rattle.osal_call.specs.declared.word.CallWord.{CallWord}
use Rattle.osal_line.specs.declared.grammar.FirstWord.{FirstWord}
use Rattle.osal_line.specs.declared.grammar.FirstWord.TheVariants as first
use Rattle.osal_line.specs.Between.{NamesBetween}
use Rattle.osal_line.specs.Bare.{IsBare}
use Rattle.osal_line.specs.Words.{words_of, is_line_byte}
use Rattle.osal_line.specs.Values.{is_body_name, number_below}
use Rattle.osal_line.specs.Vocabulary.{first_word}
use Rattle.osal_line.specs.Registers.{Registers}
use Rattle.osal_line.specs.Grammar.{call_of_words}
use Rattle.osal_line.specs.Expectation.{before_arrow, from_arrow, expectation_of}
use Rattle.osal_price.specs.Handlers.{is_handler, needs_task, may_wait}
use Rattle.osal_line.proofs.Creations.{IsBetween, MakesWell, call_names}
use Rattle.osal_price.proofs.Bare.{call_bare}
use Rattle.osal_script.specs.declared.item.Item.{Item}
use Rattle.osal_script.specs.declared.item.Item.TheVariants as item
use Rattle.osal_reading.specs.declared.fault.FaultKind.{FaultKind}
use Rattle.osal_script.specs.App.{ScriptBody, ItemNames, NamesLaterFrom, ItemIsBare, HandlerIsBare}
use Rattle.osal_reading.specs.Draft.{OpenBody, Reading, one_of, begun}
use Rattle.osal_reading.specs.Blocks.{is_taken, with_body, begin_body, read_body, begin_repeat, repeat_in, read_repeat, finished, read_end}
use Rattle.osal_reading.specs.Reading.{with_line, join_line, joined, body_after, read_call, read_by_word, is_comment, is_header, read_words, read_line}

all_push : (P : Item → Type 0) (items : List Item) (last : Item) → AllByRecursion P items → P last → AllByRecursion P (items ++ last ∷ [])
all_push P [] last all one = (one, tt)
all_push P (first ∷ items) last all one = (all.0, all_push P items last all.1 one)

-- a call of a body of this number and kind names later bodies below another number, and in a handler it is bare
abbrev CallFits : ℕ → ℕ → BodyKind → ScriptCall → Type 0
CallFits number total runs call = NamesBetween number total call × (is_handler runs ≡ true → IsBare call)

-- the same of an item
abbrev ItemFits : ℕ → ℕ → BodyKind → Item → Type 0
ItemFits number total runs item = ItemNames number total item × (is_handler runs ≡ true → ItemIsBare item)

-- the same of all items
abbrev ItemsFit : ℕ → ℕ → BodyKind → List Item → Type 0
ItemsFit number total runs items = AllByRecursion (ItemFits number total runs) items

-- the same of a body that is read
abbrev BodyFits : ℕ → ℕ → Result OpenBody FaultKind → Type 0
BodyFits number total (Ok body) = ItemsFit number total body.kind body.items
BodyFits number total (Err kind) = Unit {0}

-- the same of bodies, of which the first has this number
abbrev pub BodiesFit : ℕ → ℕ → List ScriptBody → Type 0
BodiesFit number total [] = Unit {0}
BodiesFit number total (body ∷ bodies) =
    ItemsFit number total body.kind body.items × BodiesFit (number + 1) total bodies

items_names : (number total : ℕ) (runs : BodyKind) (items : List Item) → ItemsFit number total runs items → AllByRecursion (ItemNames number total) items
items_names number total runs [] fit = tt
items_names number total runs (first ∷ items) fit = (fit.0.0, items_names number total runs items fit.1)

items_bare : (number total : ℕ) (items : List Item) → ItemsFit number total kind.Handler items → AllByRecursion ItemIsBare items
items_bare number total [] fit = tt
items_bare number total (first ∷ items) fit = (fit.0.1 refl, items_bare number total items fit.1)

body_bare : (number total : ℕ) (runs : BodyKind) (items : List Item) → ItemsFit number total runs items → HandlerIsBare runs items
body_bare number total kind.Handler items fit = items_bare number total items fit
body_bare number total kind.Task items fit = tt

-- such bodies name later ones alone
pub bodies_later : (number total : ℕ) (bodies : List ScriptBody) → BodiesFit number total bodies → NamesLaterFrom number total bodies
bodies_later number total [] fit = tt
bodies_later number total (body ∷ bodies) fit =
    (items_names number total body.kind body.items fit.0, bodies_later (number + 1) total bodies fit.1)

-- the handlers among them are bare
pub bodies_bare : (number total : ℕ) (bodies : List ScriptBody) → BodiesFit number total bodies → AllByRecursion (λ (body : ScriptBody). HandlerIsBare body.kind body.items) bodies
bodies_bare number total [] fit = tt
bodies_bare number total (body ∷ bodies) fit =
    (body_bare number total body.kind body.items fit.0, bodies_bare (number + 1) total bodies fit.1)

-- what holds of a call in a handler
both_made : {C : Type 0} (Well Bare : C → Type 0) (runs : BodyKind) (made : Option (C × Registers)) → MakesWell Well made → (is_handler runs ≡ true → MakesWell Bare made) → MakesWell (λ call. Well call × (is_handler runs ≡ true → Bare call)) made
both_made Well Bare runs None well bare = tt
both_made Well Bare runs (Some made) well bare = λ told. (well told, λ is. bare is told)

join_fits : (number total : ℕ) (body : OpenBody) (line : ℕ) (made : Option (ScriptCall × Registers)) (expect : Option (Option Expect)) → ItemsFit number total body.kind body.items → MakesWell (CallFits number total body.kind) made → BodyFits number total (join_line body line made expect)
join_fits number total body line None expect all well = tt
join_fits number total body line (Some call) None all well = tt
join_fits number total body line (Some call) (Some expect) all well =
    cond_both (is_handler body.kind && may_wait call.0) _ _ (λ f. BodyFits number total (joined (with_line body line call expect) f)) (λ e. tt) (λ e.
    cond_both (call.1.over || leb 4096 body.count) _ _ (λ f. BodyFits number total (joined (with_line body line call expect) f)) (λ e. tt) (λ e.
    cond_both call.1.undeclared _ _ (λ f. BodyFits number total (joined (with_line body line call expect) f)) (λ e. tt) (λ told.
    all_push (ItemFits number total body.kind) body.items (item.Call (record { number = line; call = call.0; expect = expect })) all (well told))))

begin_repeat_fits : (number total : ℕ) (body : OpenBody) (times : Option ℕ) → ItemsFit number total body.kind body.items → BodyFits number total (begin_repeat body times)
begin_repeat_fits number total body None all = tt
begin_repeat_fits number total body (Some times) all =
    cond_both (ltb times 1 || ltb 100000 times || leb 4 body.repeats || leb 4096 body.count) _ _ (BodyFits number total) (λ e. tt) (λ e.
    all_push (ItemFits number total body.kind) body.items (item.Repeat times) all (tt, λ is. tt))

bodies_push : (number total : ℕ) (bodies : List ScriptBody) (last : ScriptBody) → BodiesFit number total bodies → ItemsFit (number + length bodies) total last.kind last.items → BodiesFit number total (bodies ++ last ∷ [])
bodies_push number total [] last done all =
    let same : number + 0 ≡ number = omega arith in
    (subst (λ n. ItemsFit n total last.kind last.items) same all, tt)
bodies_push number total (body ∷ bodies) last done all =
    let same : number + suc (length bodies) ≡ number + 1 + length bodies = omega arith in
    (done.0, bodies_push (number + 1) total bodies last done.1 (subst (λ n. ItemsFit n total last.kind last.items) same all))

-- the same of the body that is open
abbrev CurrentFits : ℕ → ℕ → Option OpenBody → Type 0
CurrentFits number total None = Unit {0}
CurrentFits number total (Some body) = ItemsFit number total body.kind body.items

-- the bodies are few, each names later ones below a number, and the handlers are bare
pub record FitsBelow (total : ℕ) (reading : Reading) : Type 0 where
  pub few : begun reading ≤ 64
  pub done : BodiesFit 0 total reading.bodies
  pub current : CurrentFits (length reading.bodies) total reading.open_body

-- the same after a line
abbrev pub LeavesFit : ℕ → Result Reading FaultKind → Type 0
LeavesFit total (Ok after) = FitsBelow total after
LeavesFit total (Err kind) = Unit {0}

with_body_fits : (total : ℕ) (reading : Reading) (result : Result OpenBody FaultKind) → length reading.bodies + 1 ≤ 64 → BodiesFit 0 total reading.bodies → BodyFits (length reading.bodies) total result → LeavesFit total (with_body reading result)
with_body_fits total reading (Ok body) few done all = record { few = few; done = done; current = all }
with_body_fits total reading (Err kind) few done all = tt

repeat_in_fits : (total : ℕ) (reading : Reading) (body : OpenBody) (words : List (List ℕ)) → length reading.bodies + 1 ≤ 64 → BodiesFit 0 total reading.bodies → ItemsFit (length reading.bodies) total body.kind body.items → LeavesFit total (repeat_in reading body words)
repeat_in_fits total reading body [] few done all = tt
repeat_in_fits total reading body (times ∷ []) few done all =
    with_body_fits total reading (begin_repeat body (number_below (2 ^ 32) times)) few done (begin_repeat_fits (length reading.bodies) total body (number_below (2 ^ 32) times) all)
repeat_in_fits total reading body (times ∷ another ∷ words) few done all = tt

repeat_fits : (total : ℕ) (reading : Reading) (current : Option OpenBody) (words : List (List ℕ)) → length reading.bodies + one_of current ≤ 64 → BodiesFit 0 total reading.bodies → CurrentFits (length reading.bodies) total current → LeavesFit total (read_repeat reading current words)
repeat_fits total reading None words few done all = tt
repeat_fits total reading (Some body) words few done all =
    cond_both (is_handler body.kind) _ _ (LeavesFit total) (λ e. tt) (λ e. repeat_in_fits total reading body words few done all)

end_fits : (total : ℕ) (reading : Reading) (current : Option OpenBody) (words : List (List ℕ)) → length reading.bodies + one_of current ≤ 64 → BodiesFit 0 total reading.bodies → CurrentFits (length reading.bodies) total current → LeavesFit total (read_end reading current words)
end_fits total reading None words few done all = tt
end_fits total reading (Some body) (another ∷ words) few done all = tt
end_fits total reading (Some body) [] few done all =
    let number = length reading.bodies in
    let first : 0 + number ≡ number = omega arith in
    let here = subst (λ n. ItemsFit n total body.kind body.items) (sym first) all in
    cond_both (ltb 0 body.repeats) _ _ (FitsBelow total) (λ e. record { few = few; done = done; current = all_push (ItemFits number total body.kind) body.items item.End all (tt, λ is. tt) }) (λ e. record {
      few = omega (arith, length_push reading.bodies (finished body));
      done = bodies_push 0 total reading.bodies (finished body) done here;
      current = tt;
    })

-- a line that stands in a handler makes a bare call
made_fits : (number total : ℕ) (later : BodyKind → List ℕ → Option ℕ) (runs : BodyKind) (call : CallWord) (words : List (List ℕ)) (registers : Registers) → IsBetween (number + 1) total (later kind.Task) → (is_handler runs && needs_task call) ≡ false → MakesWell (CallFits number total runs) (call_of_words later call words registers)
made_fits number total later runs call words registers between may =
    both_made (NamesBetween number total) IsBare runs (call_of_words later call words registers) (call_names number total later between call words registers) (λ is.
    call_bare later call words registers (rw is at may))

call_fits : (total : ℕ) (later : BodyKind → List ℕ → Option ℕ) (reading : Reading) (current : Option OpenBody) (number : ℕ) (call : CallWord) (words : List (List ℕ)) → IsBetween (length reading.bodies + one_of current) total (later kind.Task) → length reading.bodies + one_of current ≤ 64 → BodiesFit 0 total reading.bodies → CurrentFits (length reading.bodies) total current → LeavesFit total (read_call later reading current number call words)
call_fits total later reading None number call words between few done all = tt
call_fits total later reading (Some body) number call words between few done all =
    let place = length reading.bodies in
    cond_both (is_handler body.kind && needs_task call) _ _ (LeavesFit total) (λ e. tt) (λ may.
    with_body_fits total reading (body_after later body number call words) few done (join_fits place total body number (call_of_words later call (before_arrow words) body.registers) (expectation_of (from_arrow words)) all (made_fits place total later body.kind call (before_arrow words) body.registers between may)))

begin_fits : (total : ℕ) (reading : Reading) (runs : BodyKind) (words : List (List ℕ)) → BodiesFit 0 total reading.bodies → LeavesFit total (begin_body reading runs words)
begin_fits total reading runs [] done = tt
begin_fits total reading runs (name ∷ another ∷ words) done = tt
begin_fits total reading runs (name ∷ []) done =
    cond_both (is_body_name name) _ _ (LeavesFit total) (λ e.
    cond_both (leb 64 (length reading.bodies)) _ _ (LeavesFit total) (λ e. tt) (λ e.
    cond_both (is_taken reading.bodies name) _ _ (LeavesFit total) (λ taken. tt) (λ free. record {
      few = omega (arith, leb-false 64 (length reading.bodies) e);
      done = done;
      current = tt;
    }))) (λ e. tt)

read_body_fits : (total : ℕ) (reading : Reading) (runs : BodyKind) (current : Option OpenBody) (words : List (List ℕ)) → BodiesFit 0 total reading.bodies → LeavesFit total (read_body reading runs current words)
read_body_fits total reading runs (Some body) words done = tt
read_body_fits total reading runs None words done =
    cond_both (is_handler runs && (length reading.bodies == 0)) _ _ (LeavesFit total) (λ e. tt) (λ e. begin_fits total reading runs words done)

word_fits : (total : ℕ) (later : BodyKind → List ℕ → Option ℕ) (reading : Reading) (number : ℕ) (word : Option FirstWord) (words : List (List ℕ)) → IsBetween (begun reading) total (later kind.Task) → FitsBelow total reading → LeavesFit total (read_by_word later reading number word words)
word_fits total later reading number None words between fits = tt
word_fits total later reading number (Some first.Header) words between fits = tt
word_fits total later reading number (Some first.Task) words between fits = read_body_fits total reading kind.Task reading.open_body words fits.done
word_fits total later reading number (Some first.Handler) words between fits = read_body_fits total reading kind.Handler reading.open_body words fits.done
word_fits total later reading number (Some first.Repeat) words between fits = repeat_fits total reading reading.open_body words fits.few fits.done fits.current
word_fits total later reading number (Some first.End) words between fits = end_fits total reading reading.open_body words fits.few fits.done fits.current
word_fits total later reading number (Some (first.Call call)) words between fits = call_fits total later reading reading.open_body number call words between fits.few fits.done fits.current

words_fit : (total : ℕ) (later : BodyKind → List ℕ → Option ℕ) (reading : Reading) (number : ℕ) (words : List (List ℕ)) → IsBetween (begun reading) total (later kind.Task) → FitsBelow total reading → LeavesFit total (read_words later reading number words)
words_fit total later reading number [] between fits = fits
words_fit total later reading number (word ∷ words) between fits =
    cond_both (is_comment word) _ _ (LeavesFit total) (λ e. fits) (λ e.
    cond_both reading.header _ _ (LeavesFit total) (λ e. word_fits total later reading number (first_word word) words between fits) (λ e.
    cond_both (is_header (word ∷ words)) _ _ (LeavesFit total) (λ e. record { few = fits.few; done = fits.done; current = fits.current }) (λ e. tt)))

-- a line keeps it
pub line_fits : (total : ℕ) (later : BodyKind → List ℕ → Option ℕ) (reading : Reading) (number : ℕ) (line : List ℕ) → IsBetween (begun reading) total (later kind.Task) → FitsBelow total reading → LeavesFit total (read_line later reading number line)
line_fits total later reading number line between fits =
    cond_both (ltb 255 (length line)) _ _ (LeavesFit total) (λ e. tt) (λ e.
    cond_both (list_all is_line_byte line) _ _ (LeavesFit total) (λ e. words_fit total later reading number (words_of line) between fits) (λ e. tt))
