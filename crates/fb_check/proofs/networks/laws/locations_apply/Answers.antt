use Rattle.fb_check.proofs.lemmas.networks.Circles.{height_applies}
use Rattle.fb_check.proofs.lemmas.networks.Ranges.{out_of_range_applies}
use Rattle.fb_check.proofs.lemmas.networks.Mapped.{not_mapped_applies}
use Rattle.fb_check.proofs.lemmas.networks.Targets.{two_sources_applies}
use Rattle.fb_check.proofs.lemmas.networks.NoLink.{no_link_applies}
use Rattle.fb_check.proofs.lemmas.networks.NoEvent.{no_event_applies}
use Rattle.fb_check.proofs.networks.laws.locations_apply.Goals as goal

pub returns : goal.returns
returns c = record {
  out_of_range = out_of_range_applies;
  joined = two_sources_applies;
  too_high = height_applies;
  not_mapped = not_mapped_applies;
  no_link = no_link_applies;
  no_event = no_event_applies;
}
