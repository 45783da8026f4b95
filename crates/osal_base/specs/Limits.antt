-- How many objects of each kind there may be.
use Rattle.std.specs.Prelude.{◌≤◌, ℕ}
use Rattle.osal_base.specs.declared.limits.Limits.{Limits}

-- a table has room for 1 to 1,024 objects
abbrev pub IsCapacity : ℕ → Type 0
IsCapacity n = (1 ≤ n) × (n ≤ 1024)

-- each capacity is one of a table
pub record Fits (limits : Limits) : Type 0 where
  pub tasks : IsCapacity limits.tasks
  pub queues : IsCapacity limits.queues
  pub count_sems : IsCapacity limits.count_sems
  pub bin_sems : IsCapacity limits.bin_sems
  pub mutexes : IsCapacity limits.mutexes
  pub condvars : IsCapacity limits.condvars
  pub timebases : IsCapacity limits.timebases
  pub timers : IsCapacity limits.timers
  pub streams : IsCapacity limits.streams
  pub dirs : IsCapacity limits.dirs
  pub file_systems : IsCapacity limits.file_systems

-- the capacities of an application of version 1
abbrev pub version1 : Limits
version1 = record {
  tasks = 64;
  queues = 64;
  count_sems = 20;
  bin_sems = 20;
  mutexes = 20;
  condvars = 20;
  timebases = 5;
  timers = 10;
  streams = 50;
  dirs = 4;
  file_systems = 14;
}

-- the highest number that the priority of a task may have
abbrev pub lowest_priority : ℕ
lowest_priority = 255
