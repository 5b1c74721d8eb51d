-- Lists by the indexes of their elements.
pub use Rattle.fb_link.proofs.lemmas.Lists.{set_here, set_apart, set_each, of_replicate, slice_all}
