-- What follows an atom and a key.
use Rattle.std.proofs.Common.{◌≡◌, ◌==◌, true, false, Option, Some, None, option_map, Result, Ok, Err, drop, refl, sym, ap, ◌∙◌, subst}
use Rattle.std.specs.Result.{IfOk}
use Rattle.std.specs.declared.alloc.AllocError.{AllocError}
use Rattle.toml_parser.specs.declared.error.ParseError.{ParseError}
use Rattle.toml_parser.specs.declared.error.ParseError.TheVariants.{OutOfMemory}
use Rattle.toml_parser.specs.Lexical.{Read, first, skip_ws}
use Rattle.toml_parser.specs.Numbers.{unquoted}
use Rattle.toml_parser.specs.Strings.{Key, key, quoted, starts_string}
use Rattle.toml.specs.Parse.{atom, key_equals, read_map}
use Rattle.fb_deploy_positions.specs.Values.{Text, after_atom}

-- a part of what is found under f
pub none_as : {A B : Type 0} (f : A → B) (o : Option A) (found : Option B) → option_map f o ≡ found → o ≡ None → found ≡ None
none_as f o found whole is = sym whole ∙ ap (option_map f) is

pub some_as : {A B : Type 0} (f : A → B) (o : Option A) (found : Option B) (x : A) → option_map f o ≡ found → o ≡ Some x → found ≡ Some (f x)
some_as f o found x whole is = sym whole ∙ ap (option_map f) is

pub ok_as : {A B : Type 0} (f : A → B) (r : Result (Option A) AllocError) (found same : Option B) → found ≡ same → IfOk r (λ o. option_map f o ≡ found) → IfOk r (λ o. option_map f o ≡ same)
ok_as f r found same is h = subst (λ e. IfOk r (λ o. option_map f o ≡ e)) is h

-- after an error that is not that memory ran out, nothing is found
pub refused_as : {A B : Type 0} (f : A → B) (r : Result (Option A) AllocError) (e : ParseError) (found : Option B)
    → IfOk r (λ o. (o ≡ None) × (e ≡ OutOfMemory → ⊥)) → ((e ≡ OutOfMemory → ⊥) → found ≡ None) → IfOk r (λ o. option_map f o ≡ found)
refused_as f (Ok o) e found h none = ap (option_map f) h.0 ∙ sym (none h.1)
refused_as f (Err x) e found h none = tt

rest_of : {A B : Type 0} (f : A → B) (r : Read A) → option_map (λ p. p.1) (read_map f r) ≡ option_map (λ p. p.1) r
rest_of f None = refl
rest_of f (Some p) = refl

pub after_string : (text : Text) → starts_string text ≡ true → after_atom text ≡ option_map (λ p. p.1) (quoted text)
unfolding atom
after_string text starts = rw starts (rest_of _ (quoted text))

pub after_scalar : (text : Text) → starts_string text ≡ false → after_atom text ≡ option_map (λ p. p.1) (unquoted text)
unfolding atom
after_scalar text starts = rw starts (rest_of _ (unquoted text))

pub no_key : (text : Text) → key text ≡ None → key_equals text ≡ None
unfolding key_equals
no_key text read = rw read

pub no_equals : (text rest : Text) (k : Key) → key text ≡ Some (k, rest) → (first rest == 61) ≡ false → key_equals text ≡ None
unfolding key_equals
no_equals text rest k read other = rw (read, other)

pub past_equals : (text rest : Text) (k : Key) → key text ≡ Some (k, rest) → (first rest == 61) ≡ true → key_equals text ≡ Some (k, skip_ws (drop 1 rest))
unfolding key_equals
past_equals text rest k read here = rw (read, here)
