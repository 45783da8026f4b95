-- A step of the io part that may have to wait: what it does to the tables of the part, where it leaves the part, and on
-- which streams it may wait.
use Rattle.std.proofs.Common.{◌≡◌, ℕ, Bool, true, false, List, [], ◌∷◌, Option, Some, None, is_some, refl, ap, ◌∙◌}
use Rattle.std.proofs.lemmas.Bool.{cond-false, cond_both, both_ways, false≢true}
use Rattle.osal_base.specs.declared.reply.Answer.{Answer}
use Rattle.osal_base.specs.declared.status.Status.{Status}
use Rattle.osal_base.specs.declared.status.Status.TheVariants as status
use Rattle.osal_base.specs.declared.time.Timeout.{Timeout}
use Rattle.osal_base.specs.Reply.{Replied, is_waits, is_success}
use Rattle.osal_base.specs.Time.{is_check}
use Rattle.osal_idtable.specs.Table.{Active}
use Rattle.osal_object.specs.Moves.{AreApart}
use Rattle.osal_object.specs.Objects.{ObjectsState, create_step}
use Rattle.osal_object.proofs.Moves.{either}
use Rattle.osal_object.proofs.Refusals.{Leaves, same, fails, within}
use Rattle.osal_file.specs.Files.{FilesState}
use Rattle.osal_socket.specs.Net.{NetState}
use Rattle.osal_socket.proofs.Steps.{IsNetStep, Left, Counted}
use Rattle.osal_io.specs.declared.awaited.Awaited.{Awaited}
use Rattle.osal_io.specs.declared.part.Stream.{Stream}
use Rattle.osal_io.specs.declared.part.Stream.TheVariants as stream
use Rattle.osal_io.specs.Io.{IoState, Stepped, refused, in_files, in_net, stream_at, streams_after, opened, connected, of_stream, on_stream, by_kind}
use Rattle.osal_io.specs.Sockets.{on_net}
use Rattle.osal_io.specs.Select.{finds_none}
use Rattle.osal_io.proofs.Below.{below, count_not_below, below_fails, waits_fails}
use Rattle.osal_io.proofs.FileSteps.{IsBeside}

-- the streams are the same, or have a new one
pub data Grown (old new : ObjectsState Stream Awaited) : Type 0 where
  Same : new ≡ old → Grown old new
  New : (made : Stream) → new ≡ (create_step old None made).1 → Grown old new

-- a step adds a stream at most, and leaves the other tables; it leaves the part where it answers a code below 0, and where
-- it has to wait, which it has only where it may, on active streams, on each once
pub record IsTried (io : IoState) (wait : Timeout) (on : List ℕ) (stepped : Stepped) : Type 0 where
  pub streams : Grown io.streams stepped.1.streams
  pub systems : stepped.1.files.systems ≡ io.files.systems
  pub directories : stepped.1.files.directories ≡ io.files.directories
  pub keeps : Leaves below io stepped
  pub stays : Leaves is_waits io stepped
  pub waits : is_waits stepped.0.answer ≡ true → (is_check wait ≡ false) × AreApart io.streams.table on

-- a step of the sockets leaves them where it answers a code below 0
net_keeps : {net : NetState} {wait : Timeout} {stepped : Replied × NetState} → IsNetStep net wait stepped → Leaves below net stepped
net_keeps (Left is waits) = record { left = λ under. is }
net_keeps (Counted count is) = fails (ap below is ∙ count_not_below count)

-- and where it has to wait
net_stays : {net : NetState} {wait : Timeout} {stepped : Replied × NetState} → IsNetStep net wait stepped → Leaves is_waits net stepped
net_stays (Left is waits) = record { left = λ has_to. is }
net_stays (Counted count is) = fails (ap is_waits is)

-- it has to wait only where it may
net_waits : {net : NetState} {wait : Timeout} {stepped : Replied × NetState} → IsNetStep net wait stepped → is_waits stepped.0.answer ≡ true → is_check wait ≡ false
net_waits (Left is waits) has_to = waits has_to
net_waits (Counted count is) has_to = absurd (both_ways _ (ap is_waits is) has_to)

module _ (io : IoState) where
  -- the streams after a call that gives one
  pub grown_after : (made : Stream) (reply : Replied) → Grown io.streams (streams_after io made reply)
  grown_after made reply = either (Grown io.streams) (is_success reply.answer) _ _ (New made refl) (Same refl)

  -- they are the same where it did not succeed
  pub same_after : (made : Stream) (reply : Replied) → is_success reply.answer ≡ false → streams_after io made reply ≡ io.streams
  same_after made reply none = cond-false (is_success reply.answer) _ _ none

  connected_leaves : (test : Answer → Bool) → ((given : Answer) → test given ≡ true → is_success given ≡ false) → (stepped : Replied × NetState) → Leaves test io.net stepped → Leaves test io (connected io stepped)
  connected_leaves test none stepped leaves = record {
    left = λ passes.
        ap (λ streams. record { streams = streams; files = io.files; net = stepped.1 }) (same_after stream.Socket stepped.0 (none stepped.0.answer passes))
        ∙ ap (λ net. record io { net = net }) (leaves.left passes);
  }

  module _ (wait : Timeout) (on : List ℕ) where
    -- such a step of a call that may wait so long
    abbrev pub Tries : Stepped → Type 0
    Tries stepped = IsTried io wait on stepped

    -- a refusal
    pub refuses : (fault : Status) → Tries (refused io fault)
    refuses fault = record {
      streams = Same refl;
      systems = refl;
      directories = refl;
      keeps = same;
      stays = same;
      waits = λ waits. absurd (false≢true waits);
    }

    -- a step of the files that leaves their tables
    pub beside_tries : (stepped : Replied × FilesState) → IsBeside io.files stepped → Tries (in_files io stepped)
    beside_tries stepped beside = record {
      streams = Same refl;
      systems = beside.systems;
      directories = beside.directories;
      keeps = within (λ files. record io { files = files }) beside.keeps;
      stays = fails beside.answers;
      waits = λ waits. absurd (both_ways _ beside.answers waits);
    }

    -- a choice by what a stream is
    pub kind_tries : (with_file with_socket : Stepped) → Tries with_file → Tries with_socket → (what : Stream) → Tries (by_kind with_file with_socket what)
    kind_tries with_file with_socket file socket stream.File = file
    kind_tries with_file with_socket file socket stream.Socket = socket

    module _ (apart : AreApart io.streams.table on) where
      -- a step of the sockets
      pub net_tries : (stepped : Replied × NetState) → IsNetStep io.net wait stepped → Tries (in_net io stepped)
      net_tries stepped steps = record {
        streams = Same refl;
        systems = refl;
        directories = refl;
        keeps = within (λ net. record io { net = net }) (net_keeps steps);
        stays = within (λ net. record io { net = net }) (net_stays steps);
        waits = λ waits. (net_waits steps waits, apart);
      }

      -- one that gives a stream
      pub connected_tries : (stepped : Replied × NetState) → IsNetStep io.net wait stepped → Tries (connected io stepped)
      connected_tries stepped steps = record {
        streams = grown_after stream.Socket stepped.0;
        systems = refl;
        directories = refl;
        keeps = connected_leaves below below_fails stepped (net_keeps steps);
        stays = connected_leaves is_waits waits_fails stepped (net_stays steps);
        waits = λ waits. (net_waits steps waits, apart);
      }

      -- a select that finds nothing
      pub finds_tries : Tries (finds_none io wait)
      finds_tries =
          cond_both (is_check wait) _ _ (λ (reply : Replied). Tries (reply, io))
          (λ check. refuses status.ErrorTimeout)
          (λ may. record {
            streams = Same refl;
            systems = refl;
            directories = refl;
            keeps = same;
            stays = same;
            waits = λ waits. (may, apart);
          })

    -- a reply that is a success leaves the part as it is
    pub tells : (reply : Replied) → below reply.answer ≡ false → is_waits reply.answer ≡ false → Tries (reply, io)
    tells reply above over = record {
      streams = Same refl;
      systems = refl;
      directories = refl;
      keeps = same;
      stays = same;
      waits = λ waits. absurd (both_ways _ over waits);
    }

  -- an open of a file
  pub opened_tries : (wait : Timeout) (stepped : Replied × FilesState) → IsBeside io.files stepped → Tries wait [] (opened io stepped)
  opened_tries wait stepped beside = record {
    streams = grown_after stream.File stepped.0;
    systems = beside.systems;
    directories = beside.directories;
    keeps = record {
      left = λ under.
          ap (λ streams. record { streams = streams; files = stepped.1; net = io.net }) (same_after stream.File stepped.0 (below_fails stepped.0.answer under))
          ∙ ap (λ files. record io { files = files }) (beside.keeps.left under);
    };
    stays = fails beside.answers;
    waits = λ waits. absurd (both_ways _ beside.answers waits);
  }

  -- a stream that is there is one to wait on
  pub one_apart : (id : ℕ) (active : Active Stream) → stream_at io id ≡ Some active → AreApart io.streams.table (id ∷ [])
  one_apart id active at = (ap is_some at, refl, tt)

  found_tries : (wait : Timeout) (on : List ℕ) (does : Stream → Stepped) (found : Option (Active Stream)) → ((active : Active Stream) → found ≡ Some active → Tries wait on (does active.object)) → Tries wait on (of_stream io does found)
  found_tries wait on does None tries = refuses wait on status.ErrInvalidId
  found_tries wait on does (Some active) tries = tries active refl

  -- a call on a stream, which may wait on it
  pub stream_tries : (wait : Timeout) (id : ℕ) (does : Stream → Stepped) → ((what : Stream) → AreApart io.streams.table (id ∷ []) → Tries wait (id ∷ []) (does what)) → Tries wait (id ∷ []) (on_stream io id does)
  stream_tries wait id does tries =
      found_tries wait (id ∷ []) does (stream_at io id) (λ active at. tries active.object (one_apart id active at))

  -- a call on the socket of a stream
  pub socket_tries : (wait : Timeout) (id : ℕ) (stepped : Replied × NetState) → IsNetStep io.net wait stepped → Tries wait (id ∷ []) (on_net io id stepped)
  socket_tries wait id stepped steps =
      stream_tries wait id _ (λ what apart. net_tries wait (id ∷ []) apart stepped steps)
