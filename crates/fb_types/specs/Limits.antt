-- The limits that a deployment keeps in its type (this project's profile).
use Rattle.std.specs.Prelude.{◌≡◌, ◌≤◌, [], ◌∷◌, length, true, codes, Contains}
use Rattle.fb_types.specs.Latencies.{IsLatencyTable}
use Rattle.fb_types.specs.declared.deploy.Plan.{Plan}
use Rattle.fb_types.specs.declared.deploy.Link.{Link}

pub record IsWithinLimits (plan : Plan) : Type 0 where
  pub some_resource : 1 ≤ length plan.resources
  pub few_resources : length plan.resources ≤ 256
  pub few_links : length plan.links ≤ 1024
  pub one_holds_all : plan.holds_all ≡ true → length plan.resources ≡ 1
  pub latencies : (l : Link) → Contains plan.links l → IsLatencyTable l.latency

-- One resource that holds every instance.
abbrev pub single : Plan
single =
    record {
      resources = record { device = codes "DEV"; name = codes "MAIN"; instances = [] } ∷ [];
      links = [];
      holds_all = true;
    }
