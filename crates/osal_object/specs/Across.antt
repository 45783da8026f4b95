-- What a call that is an outcome over one table of a part does to another of its tables.
use Rattle.std.specs.Prelude.{List, if◌then◌else◌}
use Rattle.osal_base.specs.Reply.{Replied, is_success}
use Rattle.osal_object.specs.Objects.{ObjectsState}
use Rattle.osal_object.specs.Outcomes.{Write, written}

module _ {T W : Type 0} where
  -- the other objects after a call: they are written where its reply is a success
  abbrev pub across : Replied → (Replied → List (Write T W)) → ObjectsState T W → ObjectsState T W
  across reply writes objects = if is_success reply.answer then written objects (writes reply) else objects
