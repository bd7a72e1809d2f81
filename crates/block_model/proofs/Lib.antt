mod BoundsNumbers
mod NameBytes
