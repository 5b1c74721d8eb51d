use Rattle.fb_types.proofs.Common.{Bor, List, ℕ, ◌++◌, ◌∙◌, ap, codes, option_map, string_bytes}
use Rattle.clap.specs.Words.{Text}
use Rattle.fbsim_command.specs.Shown.{shown_name}
use Rattle.fbsim_command.proofs.unknown_name.unknown_line.Goals as goal

-- the line with this name and these words after it
abbrev line : (option kind name words : Text) → Text
line option kind name words = codes "--" ++ (option ++ (codes ": E21: there is no " ++ (kind ++ (codes " " ++ (name ++ words)))))

pub returns : goal.returns
returns c =
    let option = c.args.option.now in
    let kind = c.args.kind.now in
    c.in_ok-format.ensures.ok ∙ ap (λ (n : Text). line option kind n (string_bytes c.in_ok-near.near)) c.in_ok-name.ensures
    ∙ ap (line option kind (shown_name c.args.name.now)) c.in_ok-near.ensures
