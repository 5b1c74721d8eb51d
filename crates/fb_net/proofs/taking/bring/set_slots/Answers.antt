use Rattle.fb_net.proofs.lemmas.Common.{◌≡◌, ℕ, ◌<◌, ◌+◌, List, length, take, get_or, false, Some, refl, ap, subst, sym, ◌∙◌, All, slice_get, slice_set, take_all, slice_get-get_or, AreAccepted, Inputs, system_of, path_at, ports_at, InstanceVariable, Value, InputValue, IsVariable, Changes, index_in, Forest, Shell}
use Rattle.fb_types.proofs.lemmas.lists.ByIndex.{all_at}
use Rattle.fb_net.specs.Samples.{slots_set}
use Rattle.fb_net.specs.Worlds.{with_shell_at}
use Rattle.fb_net.proofs.lemmas.blocks.Changing.{changes_none, changes_as, changes_more, one_by_one, one_by_one-set, value_set}
use Rattle.fb_net.proofs.lemmas.blocks.EventBlockReactions.{no_shell}
use Rattle.fb_net.proofs.lemmas.blocks.BlocksKept.{shell_index-there, stands-changed}
use Rattle.fb_net.proofs.lemmas.values.Writing.{AreNumbered, slot_changes}
use Rattle.fb_net.proofs.taking.bring.set_slots.Goals as goal

pub loop-set-init : goal.loop-set-init
loop-set-init c = changes_none c.args.system.now c.args.forest.now c.args.instance

pub shell_mut-requires : goal.shell_mut-requires
shell_mut-requires c =
    shell_index-there c.args.system.now c.loop-set.forest c.args.instance c.requires.instance
    (stands-changed c.args.system.now c.args.forest.now c.loop-set.forest c.args.instance _ c.requires.stands c.loop-set.invariant)

pub unreachable-requires : goal.unreachable-requires
unreachable-requires c =
    let stands = stands-changed c.args.system.now c.args.forest.now c.loop-set.forest c.args.instance _ c.requires.stands c.loop-set.invariant in
    no_shell c.args.system.now c.loop-set.forest c.args.instance c.requires.instance stands.whole.0 stands.whole.1 stands.here (sym c.in_default.ensures.value)

-- one slot more
set_more :
    (d : InputValue) (i : Inputs) (accepted : AreAccepted i) (numbered : AreNumbered i) (a b : Forest) (k : ℕ) (sets : List InputValue) (n : ℕ) (s : Shell) (slots : List Value)
    → k < length (system_of i).paths → All (λ (y : InputValue). y.index < length (ports_at (system_of i) (path_at (system_of i) k)).inputs) sets
    → slice_get b.shells (index_in b.shell_indexes k) ≡ Some s → n < length sets → Changes i a k (one_by_one (value_set (system_of i) k) (take n sets)) b
    → slots ≡ slice_set s.slots (get_or sets n d).index (get_or sets n d).value
    → Changes i a k (one_by_one (value_set (system_of i) k) (take (n + 1) sets)) (with_shell_at b k (record s { slots = slots }))
set_more d i accepted numbered a b k sets n s slots there within found in_range before is =
    let y : InputValue = get_or sets n d in
    let own = all_at (λ (y : InputValue). y.index < length (ports_at (system_of i) (path_at (system_of i) k)).inputs) sets n y within (slice_get-get_or sets n d in_range) in
    let x : InstanceVariable = record { instance = k; variable = y.index; is_output = false } in
    let variable : IsVariable (system_of i) x = record { instance = there; variable = own } in
    changes_more (value_set (system_of i) k) sets n d before in_range
    (subst (λ (vs : List Value). Changes i b k (value_set (system_of i) k y) (with_shell_at b k (record s { slots = vs }))) (sym is)
    (slot_changes i accepted numbered b x variable y.value s found refl))

pub loop-set-preserved : goal.loop-set-preserved
loop-set-preserved c =
    set_more _ c.args.system.now c.facts.ensures.accepted c.facts.ensures.numbered c.args.forest.now c.loop-set.forest c.args.instance c.args.sets.now c.loop-set.set-index
    c.in-Some.shell.now c.set.new.self c.requires.instance c.requires.within (sym c.in-Some.ensures.value) c.loop-set-test.true c.loop-set.invariant c.set.ensures

pub returns : goal.returns
returns c =
    let sys = system_of c.args.system.now in
    let k = c.args.instance in
    changes_as (slots_set sys k c.args.sets.now) c.loop-set.invariant
    (λ m. ap (λ sets. one_by_one (value_set sys k) sets m) (take_all c.loop-set.set-index c.args.sets.now c.loop-set-test.false) ∙ one_by_one-set sys k c.args.sets.now m)
