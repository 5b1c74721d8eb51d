use Rattle.fb_types.proofs.Common.{◌≡◌, ℕ, List, ◌+◌, ◌++◌, [], ◌∷◌, get_or, map, take, sym, subst, ap, ◌∙◌, arith, IfOk, take_at_read, map-append, take_all}
use Rattle.std.specs.Char.{to_ascii_uppercase}
use Rattle.fbsim_command.proofs.inspect.path_of.Goals as goal

pub push_reserved-requires : goal.push_reserved-requires
push_reserved-requires c =
    let inv = c.loop-byte.invariant in
    let within = c.loop-byte-test.true in
    omega (arith, inv.len, inv.room, within)

pub loop-byte-preserved : goal.loop-byte-preserved
loop-byte-preserved c =
    let text = c.args.bytes.now in
    let i = c.loop-byte.byte-index in
    let inv = c.loop-byte.invariant in
    let one = c.push_reserved.ensures in
    record {
      all = one.items
          ∙ ap (λ (bs : List ℕ). bs ++ c.to_ascii_uppercase.result ∷ []) inv.all
          ∙ ap (λ (b : ℕ). map to_ascii_uppercase (take i text) ++ b ∷ []) c.to_ascii_uppercase.ensures.value
          ∙ sym (map-append to_ascii_uppercase (take i text) (get_or text i 0 ∷ []))
          ∙ ap (map to_ascii_uppercase) (sym (take_at_read text i 0 c.loop-byte-test.true).1);
      len = omega (arith, inv.len, one.len);
      room = omega (arith, inv.room, one.capacity);
    }

pub returns : goal.returns
returns c =
    let bytes = c.args.bytes.now in
    let i = c.loop-byte.byte-index in
    let all : take i bytes ≡ bytes = take_all i bytes (let end = c.loop-byte-test.false in omega (arith, end)) in
    subst (λ (t : List ℕ). IfOk c.from_slice.result (λ path. path ≡ t))
    (c.as_slice.ensures.value ∙ c.loop-byte.invariant.all ∙ ap (map to_ascii_uppercase) all) c.from_slice.ensures
