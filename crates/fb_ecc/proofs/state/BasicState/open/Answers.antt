use Rattle.fb_types.proofs.Common.{refl, ◌∙◌, ap, variables_of}
use Rattle.fb_st.specs.Frames.{declared_in}
use Rattle.fb_ecc.proofs.lemmas.Acceptance.{sound_in_declaration}
use Rattle.fb_ecc.proofs.lemmas.Links.{first_index}
use Rattle.fb_ecc.proofs.lemmas.Soundness.{declared_opened}
use Rattle.fb_ecc.proofs.state.BasicState.open.Goals as goal

pub frame_of-requires : goal.frame_of-requires
frame_of-requires c = (sound_in_declaration c.args.block.now c.requires.declared).variables

pub returns : goal.returns
returns c = record {
  sound = sound_in_declaration c.args.block.now c.requires.declared;
  block = record {
    state = first_index c.args.block.now;
    chart = c.requires.chart;
    declared = ap declared_in c.in_ok-frame.ensures ∙ declared_opened (variables_of c.args.block.now);
  };
  first = refl;
  variables = c.in_ok-frame.ensures;
}
