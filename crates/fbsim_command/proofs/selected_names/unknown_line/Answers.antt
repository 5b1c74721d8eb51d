use Rattle.fb_types.proofs.Common.{◌++◌, ◌∙◌, ap, codes, string_bytes}
use Rattle.clap.specs.Words.{Text}
use Rattle.fb_types.specs.Names.{Name}
use Rattle.fbsim_command.specs.UnknownNames.{shown_bytes}
use Rattle.fbsim_command.proofs.selected_names.unknown_line.Goals as goal

-- the line with this name and these words after it
abbrev line : (option name words : Text) → Text
line option name words = codes "--" ++ (option ++ (codes ": there is no type or instance " ++ (name ++ (words ++ codes "\n"))))

pub returns : goal.returns
returns c =
    let option = c.args.option.now in
    c.in_ok-format.ensures.ok ∙ ap (λ (n : Text). line option n (string_bytes c.in_ok-near.near)) (c.in_ok-name.ensures ∙ ap (λ (n : Name). shown_bytes n) c.as_bytes.ensures)
    ∙ ap (line option (shown_bytes c.args.name.now)) c.in_ok-near.ensures
