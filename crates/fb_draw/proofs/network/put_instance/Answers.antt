use Rattle.fb_types.proofs.Common.{◌≡◌, Option, Some, None, sym, ◌∙◌, ap, append-nil, ◌++◌, option_copied, option_map, Kind, event_block_named, named, kind_of, type_name}
use Rattle.fb_types.specs.declared.library.BlockType.{BlockType}
use Rattle.fb_draw.specs.Networks.{block_node, node_of}
use Rattle.fb_text.proofs.lemmas.Adding.{put_as}
use Rattle.fb_draw.proofs.lemmas.Types.{declared_type, event_type}
use Rattle.fb_draw.proofs.network.put_instance.Goals as goal

pub returns-in_ok-ports-in-Some : goal.returns-in_ok-ports-in-Some
returns-in_ok-ports-in-Some c =
    let i = c.args.instance.now in
    let known = event_type c.args.library.now i.block_type c.in-Some.kind (sym (ap event_block_named c.as_bytes.ensures) ∙ sym c.kind_named.ensures ∙ c.in-Some.is) in
    put_as c.put_block.result _ _ _ _ (ap (block_node i) c.in_ok-ports-in-Some.ensures ∙ ap (λ (o : Option Kind). node_of i o) (sym known)) c.put_block.ensures

pub returns-in-Some-find_type : goal.returns-in-Some-find_type
returns-in-Some-find_type c =
    let i = c.args.instance.now in
    let known = declared_type c.args.library.now i.block_type (sym (ap event_block_named c.as_bytes.ensures) ∙ sym c.kind_named.ensures ∙ c.in-None.is) in
    let found : Some c.in-Some-find_type.block.now ≡ named type_name i.block_type c.args.library.now.blocks = sym (ap option_copied c.in-Some-find_type.is) ∙ c.find_type.ensures in
    put_as c.put_block-in-Some-find_type.result _ _ _ _
    (ap (block_node i) c.ports.ensures ∙ ap (λ (o : Option BlockType). node_of i (option_map kind_of o)) found ∙ ap (λ (o : Option Kind). node_of i o) (sym known))
    c.put_block-in-Some-find_type.ensures

pub returns-in-None-find_type : goal.returns-in-None-find_type
returns-in-None-find_type c =
    let i = c.args.instance.now in
    let known = declared_type c.args.library.now i.block_type (sym (ap event_block_named c.as_bytes.ensures) ∙ sym c.kind_named.ensures ∙ c.in-None.is) in
    let found : None ≡ named type_name i.block_type c.args.library.now.blocks = sym (ap option_copied c.in-None-find_type.is) ∙ c.find_type.ensures in
    sym (append-nil c.args.text.now.items) ∙ ap (λ (o : Option BlockType). c.args.text.now.items ++ node_of i (option_map kind_of o)) found
    ∙ ap (λ (o : Option Kind). c.args.text.now.items ++ node_of i o) (sym known)
