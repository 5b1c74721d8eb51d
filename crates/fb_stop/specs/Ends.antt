-- What the answer of a run says (this project's own).
use Rattle.std.specs.Prelude.{Result, Ok, Err}
use Rattle.fb_st.specs.declared.meter.Flow.{Flow}
use Rattle.fb_st.specs.declared.meter.Flow.TheVariants as flow
use Rattle.fb_stop.specs.Blamed.{End, Went, Left, Returned, Stopped}
use Rattle.fb_stop.specs.declared.fault.Fault.{Fault}

abbrev pub end_of : Result Flow Fault → End
end_of (Ok flow.Went) = Went
end_of (Ok flow.Left) = Left
end_of (Ok flow.Returned) = Returned
end_of (Err f) = Stopped f
