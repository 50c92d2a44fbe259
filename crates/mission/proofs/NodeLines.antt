-- Node lines taken one by one.
use Rattle.std.proofs.Common.{◌≡◌, ℕ, true, List, [], ◌∷◌, ◌++◌, map, sym, refl, ap, ◌∙◌, append_assoc}
use Rattle.std.proofs.lemmas.List.{map-append}
use Rattle.std.proofs.lemmas.List.Folds.{list_all-append}
use Rattle.std.proofs.lemmas.Bool.{and_from}
use Rattle.mission.specs.declared.node.Node.{Node}
use Rattle.mission.specs.Lines.{raw, ranged}
use Rattle.mission.specs.Texts.{ended, node_line}
use Rattle.mission.specs.Reading.{Taken}

pub ended_both : (ks ls : List (List ℕ)) → ended ks ++ ended ls ≡ ended (ks ++ ls)
ended_both [] ls = refl
ended_both (k ∷ ks) ls = append_assoc k (10 ∷ ended ks) (ended ls) ∙ ap (λ xs. k ++ (10 ∷ xs)) (ended_both ks ls)

pub ended_append : (ks ls : List (List ℕ)) (t : List ℕ) → ended ks ++ (ended ls ++ t) ≡ ended (ks ++ ls) ++ t
ended_append ks ls t = sym (append_assoc (ended ks) (ended ls) t) ∙ ap (λ xs. xs ++ t) (ended_both ks ls)

ended_push : (ls : List (List ℕ)) (l t : List ℕ) → ended (ls ++ (l ∷ [])) ++ t ≡ ended ls ++ (l ++ (10 ∷ t))
ended_push ls l t = sym (ended_append ls (l ∷ []) t) ∙ ap (λ xs. ended ls ++ xs) (append_assoc l (10 ∷ []) t)

pub taken_push : (t : List ℕ) (ns : List Node) (n : Node) (rest l after : List ℕ) → Taken t ns rest → rest ≡ l ++ (10 ∷ after) → l ≡ node_line n → ranged (raw n) ≡ true
    → Taken t (ns ++ (n ∷ [])) after
taken_push t ns n rest l after h e k g = (
  h.0 ∙ ap (λ r. ended (map node_line ns) ++ r) (e ∙ ap (λ x. x ++ (10 ∷ after)) k) ∙ sym (ended_push (map node_line ns) (node_line n) after)
      ∙ ap (λ ls. ended ls ++ after) (sym (map-append node_line ns (n ∷ []))),
  list_all-append (λ m. ranged (raw m)) ns (n ∷ []) ∙ and_from _ _ h.1 (and_from _ true g refl),
)
