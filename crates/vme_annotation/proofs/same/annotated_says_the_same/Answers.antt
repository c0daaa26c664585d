use Rattle.vme_annotation.proofs.AnnotatedSameLemmas.{says_the_same}
use Rattle.vme_annotation.proofs.same.annotated_says_the_same.Goals as goal

pub returns : goal.returns
returns c = says_the_same
