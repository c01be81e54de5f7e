-- The code's obstacles as those of the calculus.
use Rattle.gl_calculus.specs.Evaluation.Oracle as O
use Rattle.gl_grant.specs.declared.obstacles.Obstacle.{Obstacle}
use Rattle.gl_grant.specs.declared.obstacles.Obstacle.TheVariants.{Edge, Content, Root}

abbrev pub obstacle_tree : Obstacle → O.Obstacle
obstacle_tree Edge = O.Obstacle.Edge
obstacle_tree (Content a) = O.Obstacle.Content a
obstacle_tree (Root a) = O.Obstacle.Root a
