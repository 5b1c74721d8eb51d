-- The files of a call, as they were read (this project's own).
use Rattle.std.specs.Prelude.{ℕ, Bool, if◌then◌else◌, List, map, [], Option, Some, None, option_map, Result, Ok, Err}
use Rattle.std.specs.Global.{Vec}
use Rattle.fb_sim.specs.Given.{Given}
use Rattle.fb_wave.specs.declared.truncation.Cut.{Cut}
use Rattle.fb_wave.specs.declared.truncation.Cut.TheVariants as cut
use Rattle.fbsim_command.specs.declared.texts.Texts.{Texts}
use Rattle.fbsim_command.specs.declared.sources.SourceFault.{SourceFault}
use Rattle.fbsim_command.specs.declared.join.FileLines.{FileLines}

-- the bytes of the files
abbrev pub given_of : Texts → Given
given_of t =
    record {
      declaration = t.declaration.items;
      deploy = option_map (λ v. v.items) t.deploy;
      stimuli = option_map (λ v. v.items) t.stimuli;
    }

-- the texts of a list
abbrev pub texts_of : List (Vec ℕ) → List (List ℕ)
texts_of ts = map (λ t. t.items) ts

-- the lines of each file of a declaration, where it is in several
abbrev pub lines_of : Texts → List FileLines
lines_of t = t.lines.items

abbrev pub may_lines_of : Option Texts → List FileLines
may_lines_of None = []
may_lines_of (Some t) = lines_of t

-- the bytes of a file that may be there
abbrev pub contents_of : Result (Option (Vec ℕ)) SourceFault → Result (Option (List ℕ)) SourceFault
contents_of (Ok o) = Ok (option_map (λ v. v.items) o)
contents_of (Err fault) = Err fault

-- whether traces may be cut off
abbrev pub may_be_cut : Bool → Cut
may_be_cut is_cut = if is_cut then cut.Allowed else cut.Refused
