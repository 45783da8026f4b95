-- Which tasks of a journal have an open wait at its end.
use Rattle.std.specs.Prelude.{List, Bool}
use Rattle.std.specs.List.{list_any}
use Rattle.osal_runs.specs.Segments.{Segment, script_in}
use Rattle.osal_report.specs.Report.{is_stalled}

-- whether a segment's script has an open wait at its end
abbrev pub stalls : Segment → Bool
stalls segment = is_stalled (script_in segment).phase

-- whether some segment's script has an open wait at its end
abbrev pub some_stalls : List Segment → Bool
some_stalls segments = list_any stalls segments
