-- What holds of each message that one resource sent holds of each that another gets.
use Rattle.fb_types.proofs.Common.{◌≡◌, ℕ, List, [], ◌∷◌, sym, subst, All, append-nil, Global, All-permutation, System}
use Rattle.fb_types.specs.declared.run.Message.{Message}
use Rattle.std.proofs.Common.{filter, Vec}
use Rattle.std.proofs.lemmas.List.Elements.{All-filter}
use Rattle.fb_link.specs.Exchanges.{AreFor, all_of, goes_to}

pub handed : (P : Message → Type 0) (sys : System) (r : ℕ) (sent : Vec Message Global) (boxes : List (Vec Message Global)) (ms : List Message)
    → boxes ≡ sent ∷ [] → All P sent.items → AreFor sys r (all_of boxes) ms → All P ms
handed P sys r sent boxes ms is each are =
    All-permutation P (filter (goes_to sys r) (all_of boxes)) ms are.those
    (All-filter (goes_to sys r) P (all_of boxes)
    (subst (λ (zs : List (Vec Message Global)). All P (all_of zs)) (sym is) (subst (All P) (sym (append-nil sent.items)) each)))
