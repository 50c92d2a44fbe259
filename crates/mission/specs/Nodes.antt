-- What a node says by itself.
use Rattle.std.specs.Prelude.{ℕ, Some, None, Option}
use Rattle.mission.specs.declared.node.Node.{Node}
use Rattle.mission.specs.declared.node.Node.TheVariants.{Group, Par, Not, Loop, Skill, Count, Ability}

-- how many children a node has
abbrev pub arity : Node → ℕ
arity (Group kind kids) = kids
arity (Par kids need) = kids
arity Not = 1
arity (Loop kind times) = 1
arity (Skill skill device target) = 0
arity (Count key least) = 0
arity (Ability key least) = 0

-- the skill that a node names
abbrev pub skill_of : Node → Option ℕ
skill_of (Group kind kids) = None
skill_of (Par kids need) = None
skill_of Not = None
skill_of (Loop kind times) = None
skill_of (Skill skill device target) = Some skill
skill_of (Count key least) = None
skill_of (Ability key least) = None
