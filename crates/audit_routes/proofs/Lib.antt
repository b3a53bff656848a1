mod Loops
mod NoTrees
mod Preferred
mod Originators
mod Forwarded
mod NoExternals
