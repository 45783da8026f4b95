-- An identifier stands only in the table of its type, so a call on one that is not active is refused by that.
use Rattle.std.proofs.Common.{◌≡◌, ◌==◌, ℕ, List, Bool, true, false, Some, is_some, refl, sym, ap, subst, ◌∙◌}
use Rattle.std.specs.FinMap as map
use Rattle.std.proofs.lemmas.Bool.{false_from_ne_true, both_ways}
use Rattle.osal_base.specs.declared.limits.Limits.{Limits}
use Rattle.osal_base.specs.declared.id.ObjType.TheVariants as kind
use Rattle.osal_base.specs.Identifier.{type_number, type_of}
use Rattle.osal_base.specs.Limits.{Fits}
use Rattle.osal_idtable.specs.Table.{TableState, active_at}
use Rattle.osal_idtable.specs.WellFormed.{IsWellFormed, known_as}
use Rattle.osal_object.specs.Objects.{ObjectsState}
use Rattle.osal_object.proofs.HeldEach.{there}
use Rattle.osal_object.proofs.Moves.{either, is_there as is_there_in}
use Rattle.osal_object.proofs.Shapes.{move_shape}
use Rattle.osal_time.specs.Time.{is_timer}
use Rattle.osal_file.specs.Held.{is_of_directory}
use Rattle.osal_io.specs.Io.{is_of_stream}
use Rattle.osal_call.specs.declared.call.Entry.{Entry}
use Rattle.osal_call.specs.Signature.{Subject, Table, signature, part_of_type, part_of_table, id_of}
use Rattle.osal_call.specs.Signature as what
use Rattle.osal_machine.specs.Parts.{PartState, on_objects, is_active_in}
use Rattle.osal_machine.specs.Step.{MachineState, opening, part_in, is_active}
use Rattle.osal_machine.specs.History.{replay}
use Rattle.osal_laws.specs.Laws.{InactiveIdentifiersAreRefused, AreWellFormed, is_active_among, is_there}
use Rattle.osal_laws.proofs.Counted.{bare_console, named_console, kind_kept, tables_well_formed}
use Rattle.osal_laws.proofs.Own.{numbered}
use Rattle.osal_laws.proofs.Places.{Place, by_place, timebases_place, timers_place, streams_place, directories_place}
use Rattle.osal_laws.proofs.Stale.{stale_refused}

-- an active identifier has the type of its table
typed : {T : Type 0} (table : TableState T) (number id : ℕ) → IsWellFormed table → table.kind ≡ number → is_some (active_at table id) ≡ true → type_of id ≡ number
typed table number id well is some =
    let found = there (active_at table id) some in
    well.typed id (found.0).name (ap (λ o. known_as o (map.get table.reserved id)) found.1) ∙ is

-- the type of a part's objects among which an identifier is looked for
abbrev kind_in : PartState → ℕ → ℕ
kind_in part id = on_objects (λ T W objects. objects.table.kind) 0 part id

module _ (limits : Limits) (entries : List Entry) (fits : Fits limits) where
  abbrev state : MachineState
  state = replay limits entries

  abbrev tables : AreWellFormed state
  tables = tables_well_formed limits entries fits

  -- what is active in a table has the type of the table at the start
  typed_at : {T W : Type 0} {of : MachineState → ObjectsState T W} → Place of → (id : ℕ) → is_there_in (of state) id ≡ true → type_of id ≡ (of (opening limits)).table.kind
  typed_at {of = of} place id =
      typed (of state).table (of (opening limits)).table.kind id (place.has (λ T W objects. IsWellFormed objects.table) state tables) (kind_kept place (opening limits) entries)

  -- and so has what is active in a part
  typed_in : (number id : ℕ) → is_active_in (part_in number state) id ≡ true → type_of id ≡ kind_in (part_in number (opening limits)) id
  typed_in number id =
      by_place (λ look. look Bool (λ T W objects. is_there_in objects id) false state ≡ true → type_of id ≡ look ℕ (λ T W objects. objects.table.kind) 0 (opening limits))
      (λ T W of place. typed_at place id) (λ some. absurd (both_ways false refl some)) number id

  -- the table of a part is of a type of the part
  of_kind : (number id : ℕ) → is_active_in (part_in number state) id ≡ true → part_of_type (kind_in (part_in number (opening limits)) id) ≡ number
  of_kind number id =
      numbered (λ n of. is_active_in (of state) id ≡ true → part_of_type (kind_in (of (opening limits)) id) ≡ n) number
      (λ some. refl) (λ some. refl) (λ some. refl) (λ some. refl) (λ some. refl) (λ some. refl)
      (λ some. either (λ kind. part_of_type kind ≡ 6) (is_timer id) _ _ refl refl)
      (λ some. either (λ kind. part_of_type kind ≡ 7) (is_of_stream id) _ _ refl (either (λ kind. part_of_type kind ≡ 7) (is_of_directory id) _ _ refl refl))
      (λ some. ap part_of_type (move_shape (bare_console limits) named_console).kind)
      (λ n some. absurd (both_ways false refl some))

  -- what is active in the part of its type is active
  active_there : (number id : ℕ) → type_of id ≡ number → is_active_in (part_in (part_of_type number) state) id ≡ true → is_active state id ≡ true
  active_there number id is some =
      subst (λ n. is_active_in (part_in (part_of_type n) state) id ≡ true) (sym is) some

  -- what is active in a table is active
  among_active : (table : Table) (id : ℕ) → is_active_among state table id ≡ true → is_active state id ≡ true
  among_active what.Timebases id some =
      let is : type_of id ≡ type_number kind.Timebase = typed_at timebases_place id some in
      let other : is_timer id ≡ false = ap (λ n. n == type_number kind.Timer) is in
      active_there (type_number kind.Timebase) id is (rw other some)
  among_active what.Timers id some =
      let is : type_of id ≡ type_number kind.Timer = typed_at timers_place id some in
      let own : is_timer id ≡ true = ap (λ n. n == type_number kind.Timer) is in
      active_there (type_number kind.Timer) id is (rw own some)
  among_active what.Streams id some =
      let is : type_of id ≡ type_number kind.Stream = typed_at streams_place id some in
      let own : is_of_stream id ≡ true = ap (λ n. n == type_number kind.Stream) is in
      active_there (type_number kind.Stream) id is (rw own some)
  among_active what.Directories id some =
      let is : type_of id ≡ type_number kind.Directory = typed_at directories_place id some in
      let other : is_of_stream id ≡ false = ap (λ n. n == type_number kind.Stream) is in
      let own : is_of_directory id ≡ true = ap (λ n. n == type_number kind.Directory) is in
      active_there (type_number kind.Directory) id is (rw other (rw own some))
  among_active table id some =
      let of_part = ap part_of_type (typed_in (part_of_table table id) id some) ∙ of_kind (part_of_table table id) id some in
      subst (λ n. is_active_in (part_in n state) id ≡ true) (sym of_part) some

  -- an identifier that is not active is in no table
  among_none : (table : Table) (id : ℕ) → is_active state id ≡ false → is_active_among state table id ≡ false
  among_none table id none =
      false_from_ne_true (is_active_among state table id) (λ some. both_ways (is_active state id) none (among_active table id some))

  none_there : (task : ℕ) (subject : Subject) (id : ℕ) → id_of task subject ≡ Some id → is_active state id ≡ false → is_there state task subject ≡ false
  none_there task what.Nothing id is none = cc
  none_there task what.Caller id is none =
      let same : id ≡ task = cc in among_none what.Tasks task (ap (is_active state) (sym same) ∙ none)
  none_there task (what.Object table other) id is none =
      let same : id ≡ other = cc in among_none table other (ap (is_active state) (sym same) ∙ none)

-- an entry on an identifier that is not active is refused by that
pub inactive_refused : InactiveIdentifiersAreRefused
inactive_refused limits before entry id fits legal on none may =
    stale_refused limits before entry legal (none_there limits before fits entry.task (signature entry.call).subject id on none) may
