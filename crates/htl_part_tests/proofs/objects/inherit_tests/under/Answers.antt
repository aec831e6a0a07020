use Rattle.std.proofs.Common.{◌≡◌, ℕ, List, refl, sym, ap, ◌∙◌, subst}
use Rattle.htl_object.proofs.ObjectLaws.{one_object}
use Rattle.htl_object.specs.declared.object.Object.{Object}
use Rattle.htl_load.specs.{Alike.AskTheSame, Loading.HasBytes}
use Rattle.htl_model.specs.Tables.{Tables}
use Rattle.htl_part_tests.proofs.objects.inherit_tests.under.Goals as goal

one : (bytes : List ℕ) (o p : Object) → HasBytes bytes o → HasBytes bytes p → o ≡ p
one bytes o p a b = one_object o p a.object b.object (sym a.spelled ∙ b.spelled)

itself : (t : Tables) → AskTheSame t t
itself t = record { frame = refl; begin = refl; ways = refl; count = refl; branch = λ path j a b. refl; parts = λ path a. refl; jobs = λ path a. refl }

pub inherit-requires-clause-schedules : goal.inherit-requires-clause-schedules
inherit-requires-clause-schedules c = ap (λ (o : Object). o.schedules) (one c.args.bytes.now c.args.o c.args.from.now c.requires.spelled c.requires.loaded)

pub inherit-requires-clause-same : goal.inherit-requires-clause-same
inherit-requires-clause-same c =
    subst (λ (o : Object). AskTheSame c.args.o.tables o.tables) (one c.args.bytes.now c.args.o c.args.from.now c.requires.spelled c.requires.loaded) (itself c.args.o.tables)
