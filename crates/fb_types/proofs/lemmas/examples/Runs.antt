-- The runs of the worked loop and of the chart without a resting state.
use Rattle.fb_types.proofs.Common.{◌≡◌, ℕ, suc, ◌+◌, arith, refl, sym, subst, [], ◌∷◌, Some, None, codes, pos, with_value, Values, Went, Left, Stopped, RunsBody, ChartReacts, Steps}
use Rattle.fb_types.specs.Examples.{looper_type}
use Rattle.fb_types.specs.ExampleRuns.{counting_loop, calc_types, point, counted, CountsInFive, StopsInFour, index, ticked, EmitsFourTimes}
use Rattle.fb_types.specs.declared.value.Value.TheVariants as value
use Rattle.fb_types.proofs.lemmas.determined.BodyLaws.{body-one}
use Rattle.fb_types.proofs.lemmas.determined.ChartLaws.{chart-one}

abbrev first : Values → Values
first vars = with_value (codes "X") (value.Whole (pos 32766)) vars

-- from five steps on: FOR, and twice an iteration and the empty statement
pub five : (vars : Values) (n : ℕ) → RunsBody calc_types counting_loop (point vars (suc (suc (suc (suc (suc n)))))) Went (point (counted vars) n)
five vars n = (
  Went,
  (
    Went,
    point (counted vars) n,
    (
      Went,
      point (first vars) (suc (suc (suc (suc n)))),
      (refl, refl),
      (
        2,
        (
          refl,
          (
            Went,
            point (counted vars) (suc (suc n)),
            (
              Went,
              point (first vars) (suc (suc n)),
              (Went, point (first vars) (suc (suc n)), (refl, refl), (refl, refl)),
              (refl, refl),
            ),
            (
              refl,
              (
                Left,
                point (counted vars) n,
                (Went, point (counted vars) n, (Went, point (counted vars) n, (refl, refl), (refl, refl)), (refl, refl)),
                (refl, refl),
              ),
            ),
          ),
        ),
      ),
    ),
    (refl, refl),
  ),
  refl,
)

-- from four steps on: the second empty statement has none
four : (vars : Values) → RunsBody calc_types counting_loop (point vars 4) (Stopped Steps) (point (counted vars) 0)
four vars = (
  Stopped Steps,
  (
    Stopped Steps,
    point (counted vars) 0,
    (
      Went,
      point (first vars) 3,
      (refl, refl),
      (
        2,
        (
          refl,
          (
            Went,
            point (counted vars) 1,
            (Went, point (first vars) 1, (Went, point (first vars) 1, (refl, refl), (refl, refl)), (refl, refl)),
            (
              refl,
              (
                Stopped Steps,
                point (counted vars) 0,
                (Stopped Steps, point (counted vars) 0, (Stopped Steps, point (counted vars) 0, (refl, refl), (refl, refl)), (refl, refl)),
                (refl, refl),
              ),
            ),
          ),
        ),
      ),
    ),
    (refl, refl),
  ),
  refl,
)

pub counts-in-five : CountsInFive
counts-in-five vars left =
    let steps : left + 5 ≡ suc (suc (suc (suc (suc left)))) = omega arith in
    let run : RunsBody calc_types counting_loop (point vars (left + 5)) Went (point (counted vars) left) =
    subst (λ n. RunsBody calc_types counting_loop (point vars n) Went (point (counted vars) left)) (sym steps) (five vars left) in
    (run, λ f s other. body-one counting_loop calc_types (point vars (left + 5)) f Went s (point (counted vars) left) other run)

pub stops-in-four : StopsInFour
stops-in-four vars =
    (four vars, λ f s run. body-one counting_loop calc_types (point vars 4) f (Stopped Steps) s (point (counted vars) 0) run (four vars))

loops : (vars : Values) → ChartReacts looper_type (codes "GO") (index (codes "IDLE") vars 9 []) (Some Steps)
    (index (codes "BUSY") vars 0 (ticked ∷ ticked ∷ ticked ∷ ticked ∷ []))
loops vars =
    (5, (None, _, (refl, refl), (None, _, (refl, refl), (None, _, (refl, refl), (None, _, (refl, refl), (Some Steps, _, (refl, refl), (refl, refl)))))))

pub emits-four-times : EmitsFourTimes
emits-four-times vars =
    (loops vars, λ s r h. chart-one looper_type (codes "GO") (index (codes "IDLE") vars 9 []) s (Some Steps) r _ h (loops vars))
