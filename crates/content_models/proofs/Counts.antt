-- How many names occur.
use Rattle.std.proofs.Common.{◌≡◌, List, ◌+◌, map}
use Rattle.content_models.specs.Model.{Chars}
use Rattle.content_models.specs.Proper.{names_in, names_layer, depth, depth_layer, total, greatest}
use Rattle.content_models.specs.declared.content.Occurs.{Occurs}
use Rattle.content_models.specs.declared.content.Particle.{Particle}
use Rattle.content_models.specs.declared.content.Particle.TheVariants.{One, Seq, Choice}
use Rattle.content_models.proofs.Layers.{fold-One, fold-Seq, fold-Choice}

pub names_in-One : (n : Chars) (o : Occurs) → names_in (One n o) ≡ 1
unfolding names_in
names_in-One = fold-One names_layer

pub names_in-Seq : (ps : List Particle) (o : Occurs) → names_in (Seq ps o) ≡ total (map names_in ps)
unfolding names_in
names_in-Seq = fold-Seq names_layer

pub names_in-Choice : (ps : List Particle) (o : Occurs) → names_in (Choice ps o) ≡ total (map names_in ps)
unfolding names_in
names_in-Choice = fold-Choice names_layer

pub ruleset counts = (names_in-One, names_in-Seq, names_in-Choice)

pub depth-One : (n : Chars) (o : Occurs) → depth (One n o) ≡ 0
unfolding depth
depth-One = fold-One depth_layer

pub depth-Seq : (ps : List Particle) (o : Occurs) → depth (Seq ps o) ≡ 1 + greatest (map depth ps)
unfolding depth
depth-Seq = fold-Seq depth_layer

pub depth-Choice : (ps : List Particle) (o : Occurs) → depth (Choice ps o) ≡ 1 + greatest (map depth ps)
unfolding depth
depth-Choice = fold-Choice depth_layer
