-- What the proofs of several functions use.
mod CallLaws
mod TreeLaws
