-- Reading a node is reading its run of children; reading a run is reading its first node and the rest.
use Rattle.std.proofs.Common.{◌≡◌, ℕ, zero, suc, ◌+◌, ◌-◌, ◌<◌, ◌≤◌, List, ◌∷◌, ◌++◌, length, drop, replicate, sym, ap, ◌∙◌, subst, zero-add, suc-add, ⊎_elim, add-one, arith}
use Rattle.std.proofs.lemmas.List.{length-replicate, drop_at, length-take-le}
use Rattle.std.proofs.lemmas.Bool.{cases_eq, cases_lt}
use Rattle.mission.specs.declared.node.Node.{Node}
use Rattle.mission.specs.declared.breach.Breach.TheVariants.{Level}
use Rattle.mission.specs.declared.outline.Outline.{Outline}
use Rattle.mission.specs.Nodes.{arity}
use Rattle.mission.specs.Places.{node_at, taken, places}
use Rattle.mission.specs.Lawful.{Shape, Breaks, Sound}
use Rattle.mission.specs.Judging.{Unbroken, Next, Filled}
use Rattle.mission.specs.Shapes.{shape}
use Rattle.mission.proofs.Judgements.{deep}
use Rattle.mission.proofs.Places.{places_more, places_none}

pub shape_long : (o : Outline) → length (shape o).nodes ≡ o.declared.nodes
shape_long o = length-take-le o.declared.nodes o.nodes (let f = o.declared.fits in let t = o.table in omega arith)

pub sound_more : (m : Shape) (i : ℕ) → Sound m i → Unbroken m i → Sound m (i + 1)
sound_more m i s h b j l x = ⊎_elim (λ e. h b (subst (Breaks m b) e x)) (λ ne. s b j (omega (arith, ne)) x) (cases_eq j i)

drop_run : (k level : ℕ) (xs : List ℕ) → drop k (replicate k level ++ xs) ≡ xs
drop_run k level xs = drop_at (replicate k level) xs k (length-replicate k level)

-- the places of a node's children come first
opened : (ns : List Node) {i level : ℕ} (kids : ℕ) → Next ns i 1 level → kids ≡ arity (node_at ns i)
    → places ns (i + 1) ≡ replicate kids (level + 1) ++ drop 1 (places ns i)
opened ns {i} {level} kids next k =
    let others = drop 1 (places ns i) in
    places_more ns i ∙ ap (λ ls. taken ls (node_at ns i)) next.first
    ∙ ap (λ n. replicate n (suc level) ++ others) (sym k) ∙ ap (λ l. replicate kids l ++ others) (sym (add-one level))

behind : (ns : List Node) {i level : ℕ} (kids : ℕ) → Next ns i 1 level → kids ≡ arity (node_at ns i) → drop kids (places ns (i + 1)) ≡ drop 1 (places ns i)
behind ns {i} {level} kids next k = ap (drop kids) (opened ns kids next k) ∙ drop_run kids (level + 1) (drop 1 (places ns i))

pub children_next : (ns : List Node) {i level kids : ℕ} → Next ns i 1 level → kids ≡ arity (node_at ns i) → Next ns (i + 1) kids (level + 1)
children_next ns {i} {level} {kids} next k =
    record { first = opened ns kids next k ∙ ap (λ xs. replicate kids (level + 1) ++ xs) (sym (behind ns kids next k)) }

-- a node and the run of its children fill the node's place
pub node_filled : (ns : List Node) {i level kids end : ℕ} → Next ns i 1 level → kids ≡ arity (node_at ns i) → Filled ns (i + 1) kids end → Filled ns i 1 end
node_filled ns {i} {level} {kids} {end} next k f =
    let on = f.on in
    record { on = omega arith; left = f.left ∙ behind ns kids next k }

-- what is left of a run is a run
drop_some : (done more level : ℕ) (xs : List ℕ) → drop done (replicate (done + more) level ++ xs) ≡ replicate more level ++ xs
drop_some zero more level xs = ap (λ k. replicate k level ++ xs) (zero-add more)
drop_some (suc k) more level xs = ap (λ n. drop (suc k) (replicate n level ++ xs)) (suc-add k more) ∙ drop_some k more level xs

-- the next node of a run, when so many of its nodes are read
pub run_next : (ns : List Node) {i kids level done at : ℕ} → Next ns i kids level → Filled ns i done at → done < kids → Next ns at 1 level
run_next ns {i} {kids} {level} {done} {at} next f h =
    let others = drop kids (places ns i) in
    let more : kids ≡ done + suc (kids - suc done) = omega arith in
    let here : places ns at ≡ level ∷ (replicate (kids - suc done) level ++ others) =
    f.left ∙ ap (drop done) (next.first ∙ ap (λ k. replicate k level ++ others) more) ∙ drop_some done (suc (kids - suc done)) level others in
    record { first = here ∙ ap (λ xs. level ∷ xs) (sym (ap (drop 1) here)) }

-- the whole: one place at level 1, and none left after the last node
pub root : (ns : List Node) → Next ns 0 1 1
root ns = record { first = places_none ns ∙ ap (λ xs. 1 ∷ drop 1 xs) (sym (places_none ns)) }

-- a node that breaks no law is at level 16 at most
pub level_small : (m : Shape) {i level : ℕ} → Next m.nodes i 1 level → Unbroken m i → level ≤ 16
level_small m {i} {level} next ok = ⊎_elim (λ (h : 16 < level). absurd (ok Level (deep m.nodes next h))) (λ (h : level ≤ 16). h) (cases_lt 16 level)
