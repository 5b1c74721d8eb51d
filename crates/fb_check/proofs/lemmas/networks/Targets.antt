-- E24: ports to which two data connections lead.
use Rattle.fb_types.proofs.Common.{◌≡◌, List, [], ◌∷◌, map, refl, sym, ◌∙◌, ap, subst, All, is_eq, ordering_then, All-map, All-weaker, Port, same_port, pairs_in, Twice, OwnedNetwork}
use Rattle.fb_types.specs.declared.library.Connection.{Connection}
use Rattle.fb_types.specs.declared.library.Library.{Library}
use Rattle.std.proofs.Common.{Ordering}
use Rattle.std.specs.declared.cmp.Ordering.TheVariants as order
use Rattle.fb_types.specs.Joined.{TwoSources}
use Rattle.fb_check_names.specs.Ends.{End, end_port}
use Rattle.fb_check_names.proofs.lemmas.comparisons.DecidedSame.{IsExact, pair_cmp-exact}
use Rattle.fb_check_names.proofs.lemmas.comparisons.DecidedSame as seen
use Rattle.fb_check_names.specs.Repeats.{IsPair, repeats}
use Rattle.fb_check_names.specs.declared.location.TwoSourcesAt.{TwoSourcesAt}
use Rattle.fb_check_names.proofs.lemmas.unknown.InNetworks.{all_in_networks, none_in_networks, site_network}
use Rattle.fb_check_names.proofs.lemmas.twice.Repeating.{IsSame, agrees, each_pair, none_mapped, once_of, pair_twice, port_Decides}
use Rattle.fb_check.specs.networks.Sources.{IsTwoSourcesAt, two_sources_all, two_sources_at, two_sources_in, target, targets}

-- ---- A table of the ports so far

abbrev pub end_cmp : End → End → Ordering
end_cmp = seen.end_cmp

then_itself : (r : Ordering) → is_eq (ordering_then r r) ≡ is_eq r
then_itself order.Less = refl
then_itself order.Equal = refl
then_itself order.Greater = refl

-- two ends are equal exactly if their ports are
end_cmp-exact : IsExact end_cmp end_port
end_cmp-exact a b =
    let d = pair_cmp-exact (a, a) (b, b) in (
      λ h. ap (λ (p : Port × Port). p.0) (d.0 (then_itself (end_cmp a b) ∙ h)),
      λ e. sym (then_itself (end_cmp a b)) ∙ d.1 (λ i. (e i, e i)),
    )

pub end_agrees : IsSame end_cmp end_port same_port
end_agrees = agrees end_cmp end_port same_port end_cmp-exact port_Decides

-- ---- All networks

targets_are : (cs : List Connection) → map (λ c. c.1) (pairs_in [] cs) ≡ targets cs
targets_are [] = refl
targets_are (c ∷ cs) = ap (λ (ps : List Port). target c ∷ ps) (targets_are cs)

pub each_two_sources : (lib : Library) → All (IsTwoSourcesAt lib) (two_sources_all lib)
each_two_sources lib =
    all_in_networks (IsTwoSourcesAt lib) two_sources_in lib
    (λ s n at.
    let ports : List Port = targets n.1.data_connections in
    All-map (IsTwoSourcesAt lib) (two_sources_at s) (repeats same_port ports)
    (All-weaker (IsPair ports) (λ r. IsTwoSourcesAt lib (two_sources_at s r)) (λ r p. (n, at, p)) (repeats same_port ports) (each_pair same_port port_Decides ports)))

pub none_two_sources : (lib : Library) → two_sources_all lib ≡ [] → ¬ (TwoSources lib)
none_two_sources lib h w =
    none_in_networks two_sources_in (λ (n : OwnedNetwork). ¬ (Twice (targets n.1.data_connections))) lib
    (λ s n e. once_of same_port port_Decides (targets n.1.data_connections) (none_mapped (two_sources_at s) (repeats same_port (targets n.1.data_connections)) e)) h w.0 w.1
    (subst (λ (ps : List Port). Twice ps) (targets_are w.0.1.data_connections) w.2)

pub two_sources_applies : (lib : Library) (p : TwoSourcesAt) → IsTwoSourcesAt lib p → TwoSources lib
two_sources_applies lib p j = (
  j.0,
  site_network lib p.site j.0 j.1,
  subst (λ (ps : List Port). Twice ps) (sym (targets_are j.0.1.data_connections)) (pair_twice (targets j.0.1.data_connections) p.connections j.2),
)
