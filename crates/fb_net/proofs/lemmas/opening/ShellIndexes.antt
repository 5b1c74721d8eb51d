-- The shells of a resource get their indexes one after the other, in the order of the numbers of their instances.
use Rattle.fb_net.proofs.lemmas.Common.{◌≡◌, ◌≢◌, ℕ, ◌<◌, ◌+◌, List, [], ◌∷◌, ◌++◌, length, refl, sym, ◌∙◌, ap, subst, inl, inr, arith, length-append, slice_get, unwrap_or, cases_eq, slice_get_within, Inputs, system_of, path_at, opening_block, ShellRepresents, index_in, Forest, Shell}
use Rattle.fb_types.proofs.Common.{◌⊎◌}
use Rattle.fb_types.proofs.lemmas.lists.ByIndex.{element_at, slice_get-append_here, slice_get-append_left}
use Rattle.fb_net.specs.Opening.{HaveShells}
use Rattle.fb_net.specs.Worlds.{AreApart, ShellAt}

pub shell_indexes_differ : (i : Inputs) (r n : ℕ) (shell_indexes : List ℕ) → AreApart i r n shell_indexes → (j k : ℕ) → j < n → k < n → (system_of i).resource (path_at (system_of i) j) ≡ r
    → (system_of i).resource (path_at (system_of i) k) ≡ r → index_in shell_indexes j ≡ index_in shell_indexes k → j ≡ k
unfolding AreApart
shell_indexes_differ i r n shell_indexes apart = apart

are_apart : (i : Inputs) (r n : ℕ) (shell_indexes : List ℕ) → ((j k : ℕ) → j < n → k < n → (system_of i).resource (path_at (system_of i) j) ≡ r
    → (system_of i).resource (path_at (system_of i) k) ≡ r → index_in shell_indexes j ≡ index_in shell_indexes k → j ≡ k) → AreApart i r n shell_indexes
unfolding AreApart
are_apart i r n shell_indexes differ = differ

pub shell_index_kept : (shell_indexes : List ℕ) (x k : ℕ) → k < length shell_indexes → index_in (shell_indexes ++ x ∷ []) k ≡ index_in shell_indexes k
shell_index_kept shell_indexes x k h =
    let e = element_at shell_indexes k h in
    ap (λ o. unwrap_or o 0) (slice_get-append_left shell_indexes (x ∷ []) k e.0 e.1 ∙ sym e.1)

pub shell_index_last : (shell_indexes : List ℕ) (x n : ℕ) → length shell_indexes ≡ n → index_in (shell_indexes ++ x ∷ []) n ≡ x
shell_index_last shell_indexes x n long = ap (index_in (shell_indexes ++ x ∷ [])) (sym long) ∙ ap (λ o. unwrap_or o 0) (slice_get-append_here shell_indexes x)

-- one of the first, or the last
one_of : (k n : ℕ) → k < n + 1 → (k < n) ⊎ (k ≡ n)
one_of k n h = elim (cases_eq k n) [ inl e ↦ inr e | inr ne ↦ inl (let apart : k ≢ n = ne in omega (arith, h, apart)) ]

pub longer : {A : Type 0} (xs : List A) (x : A) (n : ℕ) → length xs ≡ n → length (xs ++ x ∷ []) ≡ n + 1
longer xs x n long = length-append xs (x ∷ []) ∙ ap (λ m. m + 1) long

-- at first there is none
pub none_shell_there : (i : Inputs) (t : Forest) → t.shell_indexes ≡ [] → t.shells ≡ [] → HaveShells i 0 t
none_shell_there i t no_shell_indexes no_shells = record {
  each = ap length no_shell_indexes;
  few = (let none : length t.shells ≡ 0 = ap length no_shells in omega (arith, none));
  stand = λ k h lies. absurd (omega (arith, h));
  apart = are_apart i t.resource 0 t.shell_indexes (λ j k h g lies_j lies_k same. absurd (omega (arith, h)));
}

module _ (i : Inputs) (n : ℕ) (t : Forest) (has_shells : HaveShells i n t) where
  abbrev Lies : ℕ → Type 0
  Lies k = (system_of i).resource (path_at (system_of i) k) ≡ t.resource

  kept : (x k : ℕ) → k < n → index_in (t.shell_indexes ++ x ∷ []) k ≡ index_in t.shell_indexes k
  kept x k h = shell_index_kept t.shell_indexes x k (subst (λ (m : ℕ). k < m) (sym has_shells.each) h)

  apart_still : (x j k : ℕ) → j < n → k < n → Lies j → Lies k → index_in (t.shell_indexes ++ x ∷ []) j ≡ index_in (t.shell_indexes ++ x ∷ []) k → j ≡ k
  apart_still x j k before_j before_k lies_j lies_k same = shell_indexes_differ i t.resource n t.shell_indexes has_shells.apart j k before_j before_k lies_j lies_k (sym (kept x j before_j) ∙ same ∙ kept x k before_k)

  -- an instance of another resource has no shell
  pub shell_there_elsewhere : (x : ℕ) → ¬ (Lies n) → HaveShells i (n + 1) (record t { shell_indexes = t.shell_indexes ++ x ∷ [] })
  shell_there_elsewhere x away =
      record {
        each = longer t.shell_indexes x n has_shells.each;
        few = (let few = has_shells.few in omega (arith, few));
        stand = λ k h lies. elim (one_of k n h) [
          | inl before ↦ (let s = has_shells.stand k before lies in record { shell = s.shell; stood = ap (slice_get t.shells) (kept x k before) ∙ s.stood; represents = s.represents })
          | inr last ↦ absurd (away (subst Lies last lies))
        ];
        apart = are_apart i t.resource (n + 1) (t.shell_indexes ++ x ∷ []) (λ j k h g lies_j lies_k same. elim (one_of j n h) [
          | inl before_j ↦ elim (one_of k n g) [
            | inl before_k ↦ apart_still x j k before_j before_k lies_j lies_k same
            | inr last ↦ absurd (away (subst Lies last lies_k))
          ]
          | inr last ↦ absurd (away (subst Lies last lies_j))
        ]);
      }

  -- an instance of this resource has its shell after the others
  module _ (b : Shell) (represents : ShellRepresents (system_of i) (path_at (system_of i) n) b (opening_block (system_of i) (path_at (system_of i) n))) where
    abbrev shell_indexes : List ℕ
    shell_indexes = t.shell_indexes ++ length t.shells ∷ []

    abbrev shells : List Shell
    shells = t.shells ++ b ∷ []

    last_shell_index : index_in shell_indexes n ≡ length t.shells
    last_shell_index = shell_index_last t.shell_indexes (length t.shells) n has_shells.each

    last_stands : ShellAt i shell_indexes shells n (opening_block (system_of i) (path_at (system_of i) n))
    last_stands = record { shell = b; stood = ap (slice_get shells) last_shell_index ∙ slice_get-append_here t.shells b; represents = represents }

    -- no index before is the last one
    before_last : (k : ℕ) → k < n → Lies k → index_in shell_indexes k ≡ index_in shell_indexes n → k ≡ n
    before_last k before lies same =
        let s = has_shells.stand k before lies in
        let within : index_in t.shell_indexes k < length t.shells = slice_get_within t.shells (index_in t.shell_indexes k) s.shell s.stood in
        let at : index_in t.shell_indexes k ≡ length t.shells = sym (kept (length t.shells) k before) ∙ same ∙ last_shell_index in
        absurd (omega (arith, within, at))

    pub shell_there_here : HaveShells i (n + 1) (record t { shell_indexes = shell_indexes; shells = shells })
    shell_there_here =
        record {
          each = longer t.shell_indexes (length t.shells) n has_shells.each;
          few = (let few = has_shells.few in let long = longer t.shells b (length t.shells) refl in omega (arith, few, long));
          stand = λ k h lies. elim (one_of k n h) [
            | inl before ↦
                (let s = has_shells.stand k before lies in
                record { shell = s.shell; stood = ap (slice_get shells) (kept (length t.shells) k before) ∙ slice_get-append_left t.shells (b ∷ []) (index_in t.shell_indexes k) s.shell s.stood; represents = s.represents })
            | inr last ↦ subst (λ (m : ℕ). ShellAt i shell_indexes shells m (opening_block (system_of i) (path_at (system_of i) m))) (sym last) last_stands
          ];
          apart = are_apart i t.resource (n + 1) shell_indexes (λ j k h g lies_j lies_k same. elim (one_of j n h) [
            | inl before_j ↦ elim (one_of k n g) [
              | inl before_k ↦ apart_still (length t.shells) j k before_j before_k lies_j lies_k same
              | inr last ↦ before_last j before_j lies_j (same ∙ ap (index_in shell_indexes) last) ∙ sym last
            ]
            | inr last_j ↦ elim (one_of k n g) [
              | inl before_k ↦ last_j ∙ sym (before_last k before_k lies_k (sym same ∙ ap (index_in shell_indexes) last_j))
              | inr last_k ↦ last_j ∙ sym last_k
            ]
          ]);
        }

-- the same, by what the lists have become
pub shell_there_away :
    (i : Inputs) (n : ℕ) (t : Forest) (x : ℕ) (ks : List ℕ) → HaveShells i n t → ks ≡ t.shell_indexes ++ x ∷ [] → ¬ ((system_of i).resource (path_at (system_of i) n) ≡ t.resource)
    → HaveShells i (n + 1) (record t { shell_indexes = ks })
shell_there_away i n t x ks has_shells given away =
    subst (λ (js : List ℕ). HaveShells i (n + 1) (record t { shell_indexes = js })) (sym given) (shell_there_elsewhere i n t has_shells x away)

pub shell_there_more :
    (i : Inputs) (n : ℕ) (t : Forest) (x : ℕ) (ks : List ℕ) (b : Shell) (bs : List Shell) → HaveShells i n t → x ≡ length t.shells → ks ≡ t.shell_indexes ++ x ∷ [] → bs ≡ t.shells ++ b ∷ []
    → ShellRepresents (system_of i) (path_at (system_of i) n) b (opening_block (system_of i) (path_at (system_of i) n)) → HaveShells i (n + 1) (record t { shell_indexes = ks; shells = bs })
shell_there_more i n t x ks b bs has_shells is given put represents =
    subst (λ (js : List ℕ). HaveShells i (n + 1) (record t { shell_indexes = js; shells = bs })) (sym (given ∙ ap (λ (y : ℕ). t.shell_indexes ++ y ∷ []) is))
    (subst (λ (cs : List Shell). HaveShells i (n + 1) (record t { shell_indexes = t.shell_indexes ++ length t.shells ∷ []; shells = cs })) (sym put) (shell_there_here i n t has_shells b represents))
