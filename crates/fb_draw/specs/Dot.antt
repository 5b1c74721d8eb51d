-- The head and the foot of a graph, with names in quotes (the DOT language of graphviz).
use Rattle.std.specs.Prelude.{ℕ, List, [], ◌∷◌, codes}
use Rattle.fb_types.specs.Names.{Name}
use Rattle.fb_text.specs.Pieces.{joined}

-- the head of a graph, whose nodes are of a shape
abbrev pub head : (shape : List ℕ) → Name → List ℕ
head shape n =
    joined (codes "digraph \"" ∷ n ∷ codes "\" {\n  graph [rankdir=LR, compound=true, newrank=true];\n  node [shape=" ∷ shape ∷ codes "];\n" ∷ [])

-- the end of a graph
abbrev pub foot : List ℕ
foot = codes "}\n"
