use Rattle.fb_read_positions.proofs.position_places.place_at.Goals as goal

pub returns : goal.returns
returns c = c.place_of.ensures c.args.position c.args.library.now c.in_ok-span.ensures
