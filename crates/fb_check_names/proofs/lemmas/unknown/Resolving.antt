-- What is unknown in a declaration and a deployment, by its parts (E21).
use Rattle.fb_types.proofs.Common.{List, ◌++◌, Contains, sym, ◌∙◌, inl, inr, flat_map, true≢false, Contains-append_left, Contains-append_right, Contains-append_cases, OwnedNetwork, networks, interfaces, basics, Required, required, required_types, required_withs, required_chart, required_parameters, required_deployment, NameUnknown}
use Rattle.fb_types.specs.declared.library.Library.{Library}
use Rattle.fb_types.specs.declared.deploy.Plan.{Plan}
use Rattle.fb_check_names.specs.Parts.{ArePartsKnown}
use Rattle.fb_types.proofs.lemmas.lists.Elements.{Contains-flat_map, flat_map-Contains}
use Rattle.fb_check_names.specs.Unknown.{NetworkUnknown, DeploymentUnknown}

-- ---- The names of a declaration and a deployment, by their parts

abbrev types_part : Library → List Required
types_part lib = flat_map (λ n. required_types lib n.1) (networks lib)

abbrev withs_part : Library → List Required
withs_part lib = flat_map required_withs (interfaces lib)

abbrev charts_part : Library → List Required
charts_part lib = flat_map required_chart (basics lib)

abbrev parameters_part : Library → List Required
parameters_part lib = flat_map (λ n. flat_map (required_parameters lib) n.1.instances) (networks lib)

abbrev before_parameters : Library → List Required
before_parameters lib = types_part lib ++ withs_part lib ++ charts_part lib

abbrev before_deployment : Library → List Required
before_deployment lib = before_parameters lib ++ parameters_part lib

type_required : (lib : Library) (plan : Plan) (n : OwnedNetwork) (w : Required) → Contains (networks lib) n → Contains (required_types lib n.1) w → Contains (required lib plan) w
type_required lib plan n w c d =
    Contains-append_left (before_deployment lib) (required_deployment lib plan) w
    (Contains-append_left (before_parameters lib) (parameters_part lib) w
    (Contains-append_left (types_part lib ++ withs_part lib) (charts_part lib) w
    (Contains-append_left (types_part lib) (withs_part lib) w
    (Contains-flat_map (λ (n : OwnedNetwork). required_types lib n.1) (networks lib) n w c d))))

parameter_required :
    (lib : Library) (plan : Plan) (n : OwnedNetwork) (w : Required) → Contains (networks lib) n → Contains (flat_map (required_parameters lib) n.1.instances) w
    → Contains (required lib plan) w
parameter_required lib plan n w c d =
    Contains-append_left (before_deployment lib) (required_deployment lib plan) w
    (Contains-append_right (before_parameters lib) (parameters_part lib) w
    (Contains-flat_map (λ (n : OwnedNetwork). flat_map (required_parameters lib) n.1.instances) (networks lib) n w c d))

-- ---- A part is unknown

pub of_network : (lib : Library) (plan : Plan) (n : OwnedNetwork) → Contains (networks lib) n → NetworkUnknown lib n → NameUnknown lib plan
of_network lib plan n c unknown =
    elim unknown [
      | inl w ↦ inl (
        w.0,
        elim (Contains-append_cases (required_types lib n.1) (flat_map (required_parameters lib) n.1.instances) w.0 w.1) [
          | inl t ↦ type_required lib plan n w.0 c t
          | inr p ↦ parameter_required lib plan n w.0 c p
        ],
        w.2,
      )
      | inr f ↦ inr (inr (n, c, f))
    ]

pub of_deployment : (lib : Library) (plan : Plan) → DeploymentUnknown lib plan → NameUnknown lib plan
of_deployment lib plan unknown =
    inl (unknown.0, Contains-append_right (before_deployment lib) (required_deployment lib plan) unknown.0 unknown.1, unknown.2)

-- ---- No part is unknown

required_known :
    (lib : Library) (plan : Plan) (w : Required) → ArePartsKnown lib → ((n : OwnedNetwork) → Contains (networks lib) n → ¬ (NetworkUnknown lib n))
    → ¬ (DeploymentUnknown lib plan) → Contains (required lib plan) w → ¬ ¬ (Contains w.1 w.0)
required_known lib plan w parts nets deployment c out =
    elim (Contains-append_cases (before_deployment lib) (required_deployment lib plan) w c) [
      | inr d ↦ deployment (w, d, out)
      | inl c ↦ elim (Contains-append_cases (before_parameters lib) (parameters_part lib) w c) [
        | inr p ↦
            let r = flat_map-Contains (λ (n : OwnedNetwork). flat_map (required_parameters lib) n.1.instances) (networks lib) w p in
            nets r.0 r.1 (inl (w, Contains-append_right (required_types lib r.0.1) (flat_map (required_parameters lib) r.0.1.instances) w r.2, out))
        | inl c ↦ elim (Contains-append_cases (types_part lib ++ withs_part lib) (charts_part lib) w c) [
          | inr p ↦ out (parts.names w (Contains-append_right (withs_part lib) (charts_part lib) w p))
          | inl c ↦ elim (Contains-append_cases (types_part lib) (withs_part lib) w c) [
            | inr p ↦ out (parts.names w (Contains-append_left (withs_part lib) (charts_part lib) w p))
            | inl t ↦
                let r = flat_map-Contains (λ (n : OwnedNetwork). required_types lib n.1) (networks lib) w t in
                nets r.0 r.1 (inl (w, Contains-append_left (required_types lib r.0.1) (flat_map (required_parameters lib) r.0.1.instances) w r.2, out))
          ]
        ]
      ]
    ]

pub all_known :
    (lib : Library) (plan : Plan) → ArePartsKnown lib → ((n : OwnedNetwork) → Contains (networks lib) n → ¬ (NetworkUnknown lib n))
    → ¬ (DeploymentUnknown lib plan) → ¬ (NameUnknown lib plan)
all_known lib plan parts nets deployment unknown =
    elim unknown [
      | inl w ↦ required_known lib plan w.0 parts nets deployment w.1 w.2
      | inr r ↦ elim r [
        | inl m ↦ true≢false (sym (parts.mentions m.0 m.1 m.2 m.3) ∙ m.4)
        | inr e ↦ nets e.0 e.1 (inr e.2)
      ]
    ]
