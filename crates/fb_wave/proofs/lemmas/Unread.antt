-- A reader that fails writes nothing and refuses nothing.
use Rattle.fb_wave.proofs.lemmas.Common.{ℕ, List, refl, Option, System, Outcome, IsRefusedLine, Progress, WaveError, Memory, Read}
use Rattle.fb_wave.specs.Copying.{IsNoWriteError, IsRefusedAt, IsUnfinished, RefusesEnd}
use Rattle.fb_wave.specs.Faults.{IsReadFault}
use Rattle.fb_wave.specs.declared.current_line.CurrentLine.{CurrentLine}

pub read_writes_none : (e : WaveError) → IsReadFault e → IsNoWriteError e
read_writes_none Memory fault = tt
read_writes_none Read fault = tt
read_writes_none e fault = absurd fault

pub read_current : (sys : System) (text : Option (List ℕ)) (y : CurrentLine) (e : WaveError) → IsReadFault e → IsRefusedLine sys text y e
read_current sys text y Memory fault = tt
read_current sys text y Read fault = tt
read_current sys text y e fault = absurd fault

pub read_unfinished : (sys : System) (x : Progress) (old : Option (List ℕ)) (e : WaveError) → IsReadFault e → IsUnfinished sys x old old e
read_unfinished sys x old Memory fault = refl
read_unfinished sys x old Read fault = refl
read_unfinished sys x old e fault = absurd fault

pub read_end : (end : Outcome) (tick number : ℕ) (left : Option (List ℕ)) (e : WaveError) → IsReadFault e → RefusesEnd end tick number left e
read_end end tick number left Memory fault = tt
read_end end tick number left Read fault = tt
read_end end tick number left e fault = absurd fault

pub read_refused_at :
    (end : Outcome) (tick number : ℕ) (left : Option (List ℕ)) (old new : CurrentLine) (e : WaveError) → IsReadFault e → IsRefusedAt end tick number left old new e
read_refused_at end tick number left old new Memory fault = tt
read_refused_at end tick number left old new Read fault = tt
read_refused_at end tick number left old new e fault = absurd fault
