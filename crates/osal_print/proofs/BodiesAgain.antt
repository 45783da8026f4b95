-- The lines that begin and end bodies and repeats are printed and read again.
use Rattle.std.proofs.Common.{◌≡◌, ◌==◌, ◌<◌, ◌^◌, ◌&&◌, ◌||◌, ◌++◌, ℕ, List, [], ◌∷◌, Bool, true, false, Option, Some, None, Ok, length, map, flat_map, codes, leb, ltb, bytes_eq, refl, sym, ap, ◌∙◌, append_assoc, arith, length-append}
use Rattle.std.specs.Fmt.{decimal}
use Rattle.std.proofs.lemmas.List.{append-nil, map_push, length-map, flat_map_more}
use Rattle.osal_line.specs.declared.kind.BodyKind.{BodyKind}
use Rattle.osal_line.specs.declared.kind.BodyKind.TheVariants as kind
use Rattle.osal_line.specs.Values.{is_body_name, number_below}
use Rattle.osal_price.specs.Handlers.{is_handler}
use Rattle.osal_script.specs.declared.item.Item.{Item}
use Rattle.osal_script.specs.declared.item.Item.TheVariants as item
use Rattle.osal_script.specs.App.{ScriptBody}
use Rattle.osal_reading.specs.Draft.{OpenBody}
use Rattle.osal_reading.specs.Blocks.{is_taken, empty_body, finished, end_repeat}
use Rattle.osal_reading.specs.Reading.{read_words}
use Rattle.osal_print.specs.Again.{unnumbered_item, unnumbered_body}
use Rattle.osal_print.specs.PrintText.{item_words, kind_word, body_lines}
use Rattle.osal_print.proofs.PlainWords.{plain_stands, kind_stands, name_stands}
use Rattle.osal_print.proofs.Numbers.{number_read, decimal_again, decimal_shorter, decimal_word}
use Rattle.osal_print.proofs.LineKinds.{behind, is_many, repeated}
use Rattle.osal_print.proofs.Progress.{open_lines, so_far, mirrored_body, HasFew, Prints}

-- as many bodies have the name, whatever the numbers of their lines
taken_unnumbered : (bodies : List ScriptBody) (name : List ℕ) → is_taken (map unnumbered_body bodies) name ≡ is_taken bodies name
taken_unnumbered [] name = refl
taken_unnumbered (body ∷ bodies) name = ap (λ (v : Bool). bytes_eq body.name name || v) (taken_unnumbered bodies name)

same_taken : (printed bodies : List ScriptBody) (name : List ℕ) → map unnumbered_body printed ≡ map unnumbered_body bodies → is_taken printed name ≡ is_taken bodies name
same_taken printed bodies name same =
    sym (taken_unnumbered printed name) ∙ ap (λ (v : List ScriptBody). is_taken v name) same ∙ taken_unnumbered bodies name

-- they are as many, too
pub same_long : (printed bodies : List ScriptBody) → map unnumbered_body printed ≡ map unnumbered_body bodies → length printed ≡ length bodies
same_long printed bodies same = sym (length-map printed unnumbered_body) ∙ ap length same ∙ length-map bodies unnumbered_body

-- a line that begins a body
begin_again : (later : BodyKind → List ℕ → Option ℕ) (bodies : List ScriptBody) (runs : BodyKind) (name : List ℕ) (number : ℕ) → (is_handler runs && (length bodies == 0)) ≡ false → is_body_name name ≡ true → leb 64 (length bodies) ≡ false → is_taken bodies name ≡ false → read_words later (behind bodies None) number (kind_word runs ∷ name ∷ []) ≡ Ok (behind bodies (Some (empty_body runs name)))
begin_again later bodies kind.Task name number first named few free = rw (named, few, free) refl
begin_again later bodies kind.Handler name number first named few free = rw (first, named, few, free) refl

-- it is printed as it was read
pub body_begins : (later : BodyKind → List ℕ → Option ℕ) (names : ℕ → List ℕ) (bodies : List ScriptBody) (runs : BodyKind) (name : List ℕ) → (is_handler runs && (length bodies == 0)) ≡ false → is_body_name name ≡ true → leb 64 (length bodies) ≡ false → is_taken bodies name ≡ false → Prints later names bodies None (kind_word runs ∷ name ∷ []) bodies (Some (empty_body runs name)) (kind_word runs ∷ name ∷ [])
body_begins later names bodies runs name first named few free = record {
  more = ap (λ (v : List (List (List ℕ))). (codes "osal-app" ∷ codes "1" ∷ []) ∷ v ++ (kind_word runs ∷ name ∷ []) ∷ []) (sym (append-nil (flat_map (body_lines names) bodies)));
  stand = (kind_stands runs, (name_stands name named, tt));
  shorter = omega arith;
  declares = refl;
  few = omega arith;
  reads = λ number others items match.
      let long = same_long others bodies match.bodies_same in
      record {
        printed = others;
        items = [];
        match_after = record { bodies_same = match.bodies_same; items_same = refl };
        is = begin_again later others runs name number
            (ap (λ (n : ℕ). is_handler runs && (n == 0)) long ∙ first)
            named
            (ap (leb 64) long ∙ few)
            (same_taken others bodies name match.bodies_same ∙ free);
      };
}

-- one more item of the open body is printed behind the others
pub item_more : (names : ℕ → List ℕ) (bodies : List ScriptBody) (body longer : OpenBody) (next : Item) → longer.kind ≡ body.kind → longer.name ≡ body.name → longer.items ≡ body.items ++ next ∷ [] → so_far names bodies (Some longer) ≡ so_far names bodies (Some body) ++ item_words names next ∷ []
item_more names bodies body longer next kind-is name-is items-are =
    let header : List (List ℕ) = codes "osal-app" ∷ codes "1" ∷ [] in
    let before : List (List (List ℕ)) = flat_map (body_lines names) bodies in
    let begin : List (List ℕ) = kind_word body.kind ∷ body.name ∷ [] in
    let heads : (kind_word longer.kind ∷ longer.name ∷ []) ≡ begin = rw (kind-is, name-is) refl in
    let items : map (item_words names) longer.items ≡ map (item_words names) body.items ++ item_words names next ∷ [] = ap (map (item_words names)) items-are ∙ map_push (item_words names) body.items next in
    ap (λ (v : List (List ℕ)). header ∷ before ++ v ∷ map (item_words names) longer.items) heads
    ∙ ap (λ (v : List (List (List ℕ))). header ∷ before ++ begin ∷ v) items
    ∙ ap (λ (v : List (List (List ℕ))). header ∷ v) (sym (append_assoc before (begin ∷ map (item_words names) body.items) (item_words names next ∷ [])))

-- one more item is one more in the printed text
pub items_more : (items others : List Item) (next other : Item) → map unnumbered_item others ≡ map unnumbered_item items → unnumbered_item other ≡ unnumbered_item next → map unnumbered_item (others ++ other ∷ []) ≡ map unnumbered_item (items ++ next ∷ [])
items_more items others next other same one =
    map_push unnumbered_item others other
    ∙ ap (λ (v : List Item). v ++ unnumbered_item other ∷ []) same
    ∙ ap (λ (v : Item). map unnumbered_item items ++ v ∷ []) one
    ∙ sym (map_push unnumbered_item items next)

repeat_again : (later : BodyKind → List ℕ → Option ℕ) (bodies : List ScriptBody) (body : OpenBody) (count : List ℕ) (times number : ℕ) → is_handler body.kind ≡ false → number_below (2 ^ 32) count ≡ Some times → is_many body times ≡ false → read_words later (behind bodies (Some body)) number (codes "repeat" ∷ count ∷ []) ≡ Ok (behind bodies (Some (repeated body times)))
repeat_again later bodies body count times number in_task times-are few = rw (in_task, times-are, few) refl

-- a line that begins a repeat
pub repeat_begins : (later : BodyKind → List ℕ → Option ℕ) (names : ℕ → List ℕ) (bodies : List ScriptBody) (body : OpenBody) (count : List ℕ) (times : ℕ) → HasFew (Some body) → is_handler body.kind ≡ false → number_below (2 ^ 32) count ≡ Some times → is_many body times ≡ false → Prints later names bodies (Some body) (codes "repeat" ∷ count ∷ []) bodies (Some (repeated body times)) (codes "repeat" ∷ decimal times ∷ [])
repeat_begins later names bodies body count times few_registers in_task times-are few =
    let spelled = number_read (2 ^ 32) count times (omega arith) times-are in
    let small : times < 2 ^ 64 = omega (arith, spelled.fits) in
    record {
      more = item_more names bodies body (repeated body times) (item.Repeat times) refl refl refl;
      stand = (plain_stands (codes "repeat") refl, ((decimal_word times small).stands, tt));
      shorter = omega (arith, decimal_shorter (2 ^ 32) (length count) times (omega arith) spelled, length-append (decimal times) [], length-append count []);
      declares = refl;
      few = few_registers;
      reads = λ number others items match. record {
        printed = others;
        items = items ++ item.Repeat times ∷ [];
        match_after = record {
          bodies_same = match.bodies_same;
          items_same = items_more body.items items (item.Repeat times) (item.Repeat times) match.items_same refl;
        };
        is = repeat_again later others (mirrored_body body items) (decimal times) times number in_task (decimal_again (2 ^ 32) times spelled.fits small) few;
      };
    }

-- a line that ends a repeat
pub repeat_ends : (later : BodyKind → List ℕ → Option ℕ) (names : ℕ → List ℕ) (bodies : List ScriptBody) (body : OpenBody) → HasFew (Some body) → ltb 0 body.repeats ≡ true → Prints later names bodies (Some body) (codes "end" ∷ []) bodies (Some (end_repeat body)) (codes "end" ∷ [])
repeat_ends later names bodies body few_registers inner = record {
  more = item_more names bodies body (end_repeat body) item.End refl refl refl;
  stand = (plain_stands (codes "end") refl, tt);
  shorter = omega arith;
  declares = refl;
  few = few_registers;
  reads = λ number others items match. record {
    printed = others;
    items = items ++ item.End ∷ [];
    match_after = record {
      bodies_same = match.bodies_same;
      items_same = items_more body.items items item.End item.End match.items_same refl;
    };
    is = rw inner refl;
  };
}

-- the lines of a body that is done are those of the open one, and its end
body_more : (names : ℕ → List ℕ) (bodies : List ScriptBody) (body : OpenBody) → so_far names (bodies ++ finished body ∷ []) None ≡ so_far names bodies (Some body) ++ (codes "end" ∷ []) ∷ []
body_more names bodies body =
    let header : List (List ℕ) = codes "osal-app" ∷ codes "1" ∷ [] in
    let before : List (List (List ℕ)) = flat_map (body_lines names) bodies in
    let end : List (List (List ℕ)) = (codes "end" ∷ []) ∷ [] in
    append-nil (header ∷ flat_map (body_lines names) (bodies ++ finished body ∷ []))
    ∙ sym (flat_map_more (body_lines names) (header ∷ []) bodies (finished body))
    ∙ ap (λ (v : List (List (List ℕ))). header ∷ v) (sym (append_assoc before (open_lines names (Some body)) end))

-- a line that ends a body
pub body_ends : (later : BodyKind → List ℕ → Option ℕ) (names : ℕ → List ℕ) (bodies : List ScriptBody) (body : OpenBody) → ltb 0 body.repeats ≡ false → Prints later names bodies (Some body) (codes "end" ∷ []) (bodies ++ finished body ∷ []) None (codes "end" ∷ [])
body_ends later names bodies body outer = record {
  more = body_more names bodies body;
  stand = (plain_stands (codes "end") refl, tt);
  shorter = omega arith;
  declares = refl;
  few = tt;
  reads = λ number others items match.
      let done : ScriptBody = record { name = body.name; kind = body.kind; items = items } in
      record {
        printed = others ++ done ∷ [];
        items = [];
        match_after = record {
          bodies_same =
              map_push unnumbered_body others done
              ∙ ap (λ (v : List ScriptBody). v ++ unnumbered_body done ∷ []) match.bodies_same
              ∙ ap (λ (v : List Item). map unnumbered_body bodies ++ record { name = body.name; kind = body.kind; items = v } ∷ []) match.items_same
              ∙ sym (map_push unnumbered_body bodies (finished body));
          items_same = refl;
        };
        is = rw outer refl;
      };
}
