use Rattle.dim_vm.proofs.AtPlaces.{led_law, walk_law}
use Rattle.dim_vm.proofs.Courses.{course_law}
use Rattle.dim_vm.proofs.laws.walk_places_law.Goals as goal

pub returns-clause-walk : goal.returns-clause-walk
returns-clause-walk c = walk_law

pub returns-clause-led : goal.returns-clause-led
returns-clause-led c = led_law

pub returns-clause-course : goal.returns-clause-course
returns-clause-course c = course_law
